-- What the reader's definition takes for an element is one of the grammar's: each definition of an element, from the leaves up, is a
-- refusal with a number above 0, or starts with the octets of a designation or of a unit that may be shown.
use Rattle.element.proofs.Names.{ℕ, suc, ◌+◌, ◌*◌, ◌-◌, ◌/◌, ◌%◌, ◌≤◌, ◌<◌, arith, ◌≡◌, refl, sym, ap, ap₂, ◌∙◌, subst, Bool, true, false, cond}
use Rattle.element.proofs.Names.{List, [], ◌∷◌, ◌++◌, eqb, leb, ltb, length, take, length-take-le, eqb-true, ltb-true, ltb-false, leb-true, lt-ltb, le-leb}
use Rattle.element.proofs.Names.{pick, test, pick_by, Side, GL, GR, row_of, form_of, allowed, set_of, Standing, on, get, part, next, Sets, Part, Shape, Refuses}
use Rattle.element.proofs.Names.{Designates, Gives}
use lib.ListN.{take-append-drop}
use Rattle.charset.specs.Charsets.{Named}
use Rattle.charset.proofs.Laws.{set_named, allowed_below}
use Rattle.state.specs.Elements.{unit}
use Rattle.text.specs.Text.{graphic_of, one_octet_of, two_octets_of, second_octet_of}
use Rattle.control.specs.Escape.{intermediates_of, designates_of, designation_of, multi_octet_of, escape_of}
use Rattle.segment.specs.Segment.{segment_part, body_of, lengths_of, extended_of}
use Rattle.control.specs.Mark.{begin_of, csi_of}
use Rattle.element.specs.Element.{shape_of}
use Rattle.element.specs.Start.{Start, used_in, begun_by}
use Rattle.element.proofs.Starts.{On, Starts, starts}
use Rattle.element.proofs.Starts as start
use Rattle.grammar.specs.Units.{TextUnit, char, space, control, tab, newline, ltr, rtl, revert, ext, kind_of, text_octets, counts, unit_of, wide, top}
use Rattle.grammar.specs.Units.{octets, lead, designation, code_used, segment, good}
use Rattle.grammar.specs.Grammar.{Shows, Legal}
use Rattle.grammar.specs.Reading.{Octets, unit_at}
use Rattle.grammar.proofs.Segment.{Content, right, wrong, content}

-- octets w that start with a unit on a side, which is that of a part, and go on with t
pub record Shown (s : Sets) (w : List ℕ) (p : Part) (u : TextUnit) (d : Side) (t : List ℕ) : Type 0 where
  pub fit : good u ≡ true
  pub shows : Shows u d s
  pub are : w ≡ octets d u ++ t
  pub size : length (octets d u) ≡ p.skip + p.octets
  pub unit : unit_at p w ≡ u
  pub kind : p.kind ≡ kind_of u
  pub text : p.text ≡ counts u

-- octets w that start with a designation of k octets, and go on with t
pub record Changed (w : List ℕ) (k : ℕ) (p : Standing) (t : List ℕ) : Type 0 where
  pub may : allowed p.side p.set ≡ true
  pub are : w ≡ designation p ++ t
  pub size : length (designation p) ≡ k

pub data Sound (s : Sets) (w : List ℕ) : Shape → Type 0 where
  refuses : {n o : ℕ} → 1 ≤ n → Sound s w (Refuses n o)
  designates : {k : ℕ} (d : Side) (c : ℕ) (t : List ℕ) → Changed w k (on d c) t → Sound s w (Designates k d c)
  finds : {p : Part} (u : TextUnit) (d : Side) (t : List ℕ) → Shown s w p u d t → Sound s w (Gives p)

-- ---- octets before a final, and codes

front : (form : ℕ) (d : Side) (x : ℕ) (t : List ℕ) → lead form d (x ∷ t) ≡ lead form d (x ∷ []) ++ t
front form GL x t = test (eqb form 3) (λ e. rw e) (λ e. rw e)
front form GR x t = test (eqb form 3) (λ e. rw e) (λ e. test (eqb form 2) (λ f. rw (e, f)) (λ f. rw (e, f)))

pub lead_size : (form : ℕ) (d : Side) (x : ℕ) (b : Bool) → eqb form 3 ≡ b → length (lead form d (x ∷ [])) ≡ cond b 4 3
lead_size form GL x true e = rw e
lead_size form GL x false e = rw e
lead_size form GR x true e = rw e
lead_size form GR x false e = test (eqb form 2) (λ f. rw (e, f)) (λ f. rw (e, f))

change : (form : ℕ) (d : Side) (x : ℕ) (t : List ℕ) → Named (row_of (set_of form d x)) form d x → (b : Bool) → eqb form 3 ≡ b
    → Changed (lead form d (x ∷ t)) (cond b 4 3) (on d (set_of form d x)) t
unfolding allowed designation form_of
change form d x t n b k =
    record {
      may = n.side;
      are = front form d x t ∙ ap (λ (q : List ℕ). q ++ t) (ap₂ (λ (f y : ℕ). lead f d (y ∷ [])) (sym n.form) (sym n.last));
      size = ap₂ (λ (f y : ℕ). length (lead f d (y ∷ []))) n.form n.last ∙ lead_size form d x b k;
    }

-- an octet that its set uses has a code that the set uses
code_used_lem : (form b : ℕ) → eqb form 3 ≡ false → used_in form b ≡ true → 0x20 ≤ b % 128 → code_used form (b % 128) ≡ true
unfolding used_in code_used pick
code_used_lem form b n u h =
    test (eqb form 2) (λ e. rw (n, e, le-leb 0x20 (b % 128) h, le-leb (b % 128) 0x7F (omega arith))) (λ e. rw (n, e) (rw e at u))

module _ (s : Sets) where
  no : {w : List ℕ} {n o : ℕ} → Sound s w (Refuses (suc n) o)
  no {n = n} = refuses {n = suc n} (omega arith)

  by : {w : List ℕ} {x y : Shape} (b : Bool) → (b ≡ true → Sound s w x) → (b ≡ false → Sound s w y) → Sound s w (pick b x y)
  by {w} b f g = pick_by (Sound s w) b f g

  -- an octet x that may be n
  is : {a b : Shape} (w : ℕ → List ℕ) (x n : ℕ) → Sound s (w n) a → Sound s (w x) b → Sound s (w x) (pick (eqb x n) a b)
  is {a} w x n f g = by (eqb x n) (λ e. subst (λ (y : ℕ). Sound s (w y) a) (sym (eqb-true x n e)) f) (λ _. g)

  -- ---- direction marks

  sound_begin : (kind y : ℕ) (t : List ℕ) → ((t : List ℕ) → Sound s (0x9B ∷ y ∷ 0x5D ∷ t) (unit kind 0 0 3))
      → Sound s (0x9B ∷ y ∷ t) (begin_of kind t)
  unfolding begin_of next
  sound_begin kind y [] f = no
  sound_begin kind y (z ∷ t) f = is (λ z. 0x9B ∷ y ∷ z ∷ t) z 0x5D (f t) no

  sound_csi : (t : List ℕ) → Sound s (0x9B ∷ t) (csi_of t)
  unfolding csi_of next octets good unit_of unit_at
  sound_csi [] = no
  sound_csi (x ∷ t) =
      is (λ x. 0x9B ∷ x ∷ t) x 0x5D (finds (control revert) GL t (search))
      (is (λ x. 0x9B ∷ x ∷ t) x 0x31 (sound_begin 4 0x31 t (λ t. finds (control ltr) GL t (search)))
      (is (λ x. 0x9B ∷ x ∷ t) x 0x32 (sound_begin 5 0x32 t (λ t. finds (control rtl) GL t (search))) no))

  -- ---- designations

  sound_intermediates : {w : List ℕ} (k : ℕ) (t : List ℕ) → Sound s w (intermediates_of k t)
  unfolding intermediates_of
  sound_intermediates k [] = no
  sound_intermediates k (b ∷ t) =
      by _ (λ _. no) (λ _. by _ (λ _. sound_intermediates (k + 1) t) (λ _. by _ (λ _. no) (λ _. by _ (λ _. no) (λ _. no))))

  sound_named : (k form : ℕ) (d : Side) (x : ℕ) (t : List ℕ) → k + 1 ≡ cond (eqb form 3) 4 3
      → Sound s (lead form d (x ∷ t)) (designates_of k d (set_of form d x))
  unfolding designates_of
  sound_named k form d x t h =
      by _ (λ e. rw h (designates d _ t (change form d x t (set_named form d x (ltb-true (set_of form d x) 15 e)) (eqb form 3) refl))) (λ _. no)

  sound_designation : (k form : ℕ) (d : Side) (t : List ℕ) → k + 1 ≡ cond (eqb form 3) 4 3 → Sound s (lead form d t) (designation_of k form d t)
  unfolding designation_of next
  sound_designation k form d [] h = no
  sound_designation k form d (x ∷ t) h =
      by _ (λ _. no)
      (λ _. by _ (λ _. sound_intermediates (k + 1) t) (λ _. by _ (λ _. no) (λ _. by _ (λ _. sound_named k form d x t h) (λ _. no))))

  sound_multi_octet : (t : List ℕ) → Sound s (0x1B ∷ 0x24 ∷ t) (multi_octet_of t)
  unfolding multi_octet_of next
  sound_multi_octet [] = no
  sound_multi_octet (x ∷ t) =
      is (λ x. 0x1B ∷ 0x24 ∷ x ∷ t) x 0x28 (sound_designation 3 3 GL t refl)
      (is (λ x. 0x1B ∷ 0x24 ∷ x ∷ t) x 0x29 (sound_designation 3 3 GR t refl) no)

  -- ---- extended segments

  module _ (e m l n : ℕ) (t : List ℕ) (le : 0x30 ≤ e) (ge : e < 0x35) (lm : 128 ≤ m) (gm : m < 256) (ll : 128 ≤ l) (gl : l < 256)
      (en : n ≡ (m - 128) * 128 + (l - 128)) where
    held : n ≤ length t → segment e 0 (take n t) ≡ true
        → Sound s (0x1B ∷ 0x25 ∷ 0x2F ∷ e ∷ m ∷ l ∷ t) (Gives (segment_part e n (text_octets (take n t))))
    unfolding octets good unit_at unit_of
    held h g =
        finds {p = segment_part e n (text_octets (take n t))} (ext e (take n t)) GL _
        (record {
          fit = rw (le-leb 0x30 e le, le-leb e 0x34 (omega arith), le-leb (length (take n t)) 16383 (omega (arith, count)), g);
          shows = tt;
          are = λ i. 0x1B ∷ 0x25 ∷ 0x2F ∷ e ∷ high i ∷ low i ∷ sym (take-append-drop n t) i;
          size = omega (arith, count);
          unit = refl;
          kind = refl;
          text = refl;
        })
      where
        count : length (take n t) ≡ n
        count = length-take-le n t h

        high : m ≡ 128 + length (take n t) / 128
        high = omega (arith, count)

        low : l ≡ 128 + length (take n t) % 128
        low = omega (arith, count)

    sound-body : Sound s (0x1B ∷ 0x25 ∷ 0x2F ∷ e ∷ m ∷ l ∷ t) (body_of e n t)
    unfolding body_of
    sound-body =
        by (leb n (length t))
        (λ q. let h = leb-true n _ q in by-content h (content e n (take n t) 0 (omega (arith, length-take-le n t h))) refl)
        (λ _. no)
      where
        by-content : n ≤ length t → {b : Bool} {x : Shape} → Content e n (text_octets (take n t)) b x → segment e 0 (take n t) ≡ b
            → Sound s (0x1B ∷ 0x25 ∷ 0x2F ∷ e ∷ m ∷ l ∷ t) x
        by-content h right g = held h g
        by-content h wrong g = no

  sound_lengths : (e : ℕ) (t : List ℕ) → 0x30 ≤ e → e < 0x35 → Octets t → Sound s (0x1B ∷ 0x25 ∷ 0x2F ∷ e ∷ t) (lengths_of e t)
  unfolding lengths_of next
  sound_lengths e [] le ge o = no
  sound_lengths e (m ∷ []) le ge o = by _ (λ _. no) (λ _. no)
  sound_lengths e (m ∷ l ∷ t) le ge o =
      by (ltb m 0x80) (λ _. no)
      (λ p. by (ltb l 0x80) (λ _. no) (λ q. sound-body e m l _ t le ge (ltb-false m 0x80 p) (o 0) (ltb-false l 0x80 q) (o 1) refl))

  sound_extended : (t : List ℕ) → Octets t → Sound s (0x1B ∷ 0x25 ∷ t) (extended_of t)
  unfolding extended_of next
  sound_extended [] o = no
  sound_extended (x ∷ []) o = by _ (λ _. no) (λ _. no)
  sound_extended (x ∷ e ∷ t) o =
      is (λ x. 0x1B ∷ 0x25 ∷ x ∷ e ∷ t) x 0x2F
      (by (ltb e 0x30) (λ _. no)
      (λ p. by (ltb e 0x35) (λ r. sound_lengths e t (ltb-false e 0x30 p) (ltb-true e 0x35 r) (λ i. o (suc (suc i)))) (λ _. no)))
      no

  sound_escape : (t : List ℕ) → Octets t → Sound s (0x1B ∷ t) (escape_of t)
  unfolding escape_of next
  sound_escape [] o = no
  sound_escape (x ∷ t) o =
      at 0x28 (sound_designation 2 1 GL t refl)
      (at 0x29 (sound_designation 2 1 GR t refl)
      (at 0x2D (sound_designation 2 2 GR t refl)
      (at 0x24 (sound_multi_octet t) (at 0x25 (sound_extended t (λ i. o (suc i))) (by _ (λ _. no) (λ _. no))))))
    where
      at : {a b : Shape} (n : ℕ) → Sound s (0x1B ∷ n ∷ t) a → Sound s (0x1B ∷ x ∷ t) b → Sound s (0x1B ∷ x ∷ t) (pick (eqb x n) a b)
      at n f g = is (λ x. 0x1B ∷ x ∷ t) x n f g

  -- ---- characters and spaces

  -- a character of the set c, which stands on the side of its first octet b
  module _ (d : Side) (c b : ℕ) (here : get d s ≡ c) (below : c < 15) (side : top d + b % 128 ≡ b) (low : 0x20 ≤ b % 128) (octet : b < 256) where
    one : (t : List ℕ) → eqb (form_of c) 3 ≡ false → code_used (form_of c) (b % 128) ≡ true → Sound s (b ∷ t) (one_octet_of c b)
    unfolding octets good wide unit_at unit_of
    one t n u =
        finds {p = part 0 c (b % 128) 0 1 true} (char c (b % 128)) d t
        (record {
          fit = rw (lt-ltb c 15 below, u);
          shows = here;
          are = rw n (ap (λ (x : ℕ). x ∷ t) (sym side));
          size = rw n;
          unit = refl;
          kind = refl;
          text = refl;
        })

    two : (y : ℕ) (t : List ℕ) → eqb (form_of c) 3 ≡ true → graphic_of (b % 128) ≡ true → y / 128 ≡ b / 128 → graphic_of (y % 128) ≡ true
        → Sound s (b ∷ y ∷ t) (two_octets_of c b y)
    unfolding octets good wide unit_at unit_of code_used
    two y t n u e v =
        let k : ℕ = b % 128 * 256 + y % 128 in
        let q : (b % 128 * 256 + y % 128) / 256 ≡ b % 128 = omega arith in
        let r : (b % 128 * 256 + y % 128) % 256 ≡ y % 128 = omega arith in
        let z : top d + y % 128 ≡ y = omega arith in
        finds {p = part 0 c (b % 128 * 256 + y % 128) 0 2 true} (char c (b % 128 * 256 + y % 128)) d t
        (record {
          fit = rw (lt-ltb c 15 below, n, q, r, u, v);
          shows = here;
          are = rw (n, q, r) (ap₂ (λ (x w : ℕ). x ∷ w ∷ t) (sym side) (sym z));
          size = rw n;
          unit = refl;
          kind = refl;
          text = refl;
        })

    sound-second : (t : List ℕ) → eqb (form_of c) 3 ≡ true → graphic_of (b % 128) ≡ true → Sound s (b ∷ t) (second_octet_of c b t)
    unfolding second_octet_of next
    sound-second [] n u = no
    sound-second (y ∷ t) n u =
        by (eqb (y / 128) (b / 128)) (λ e. by (graphic_of (y % 128)) (λ v. two y t n u (eqb-true (y / 128) (b / 128) e) v) (λ _. no)) (λ _. no)

  module _ (l : Legal s) where
    -- an octet of a side: the set there, and the octet's code
    placed : (d : Side) (b : ℕ) → On d b → b < 256 → (get d s < 15) × (top d + b % 128 ≡ b) × (0x20 ≤ b % 128)
    placed GL b (h, k) o = (allowed_below GL s.gl l.left, omega arith, omega arith)
    placed GR b h o = (allowed_below GR s.gr l.right, omega arith, omega arith)

    pub sound : (b : ℕ) (t : List ℕ) → Octets (b ∷ t) → Sound s (b ∷ t) (shape_of (b ∷ t) s)
    unfolding shape_of begun_by octets good wide unit_at unit_of
    sound b t o = told (starts s b)
      where
        told : {c : Start} → Starts s b c → Sound s (b ∷ t) (begun_by c b t s)
        told (start.escape e) = rw e (sound_escape t (λ i. o (suc i)))
        told (start.mark e) = rw e (sound_csi t)
        told (start.tab e) = rw e (finds {p = part 2 0 0 0 1 false} (control tab) GL t (search))
        told (start.newline e) = rw e (finds {p = part 3 0 0 0 1 false} (control newline) GL t (search))
        told (start.space e n) = rw e (finds {p = part 1 0 0 0 1 true} space GL t (search))
        told (start.one d h u n) =
            let p = placed d b h (o 0) in
            one d (get d s) b refl p.0 p.1 p.2 (o 0) t n (code_used_lem (form_of (get d s)) b n u p.2)
        told (start.two d h g w) =
            let p = placed d b h (o 0) in
            sound-second d (get d s) b refl p.0 p.1 p.2 (o 0) t w g
        told start.unused = no
