-- The string that `writing` computes is the one of rule W4: it is one of the lazy strings (`writing_lazy`), every lazy
-- string reads as the units and so is no shorter (`lazy_reads`, `lazy_lower`), and a lazy string as short is the same or comes after it
-- (`first`); such a string is one (`the_choice`, `one_choice`). What a unit's need says is what the paper's words say (`split`).
use Rattle.element.proofs.Names.{ℕ, ◌+◌, ◌≤◌, min, arith, ◌≡◌, refl, sym, ap, ap₂, ◌∙◌, Bool, true, false, ◌||◌, List, [], ◌∷◌, ◌++◌, Option}
use Rattle.element.proofs.Names.{none, some, ◌⊎◌, inl, inr, ⊎_elim, length, length-append, eq-eqb, off, clash, Side, GL, GR, allowed, may_use, Standing}
use Rattle.element.proofs.Names.{on, Sets}
use Rattle.base.proofs.Bools.{or_none}
use Rattle.grammar.specs.Units.{TextUnit, char, space, control, ext, octets, good}
use Rattle.grammar.specs.Grammar.{Shows, Reads, done, designate, show, Legal}
use Rattle.grammar.proofs.Agrees.{put_legal}
use Rattle.shortest.specs.Writing.{Need, free, either, stands, met, via, least, choose, after, designated, unit_size, need, places_of, used, cost}
use Rattle.shortest.specs.Writing.{writing, Good}
use Rattle.shortest.specs.Choice.{Serves, MayPrecede, LeftFirst, Lazy, nil, next, Preferred, Before, here, later, Chosen}
use Rattle.shortest.proofs.Needs.{spent, Chose, nothing, the_first, the_second, chose, chosen_met}
use Rattle.shortest.proofs.Costs.{spent_length, size_side, writing_length}
use Rattle.shortest.proofs.Bounds.{good_side, shows_met, met_shows, lower}

-- ---- a unit's need

-- a need is what serves the unit, the preferred one first
data Split (u : TextUnit) : Need → Type 0 where
  none_serves : ((p : Standing) → Serves u p → ⊥) → Split u free
  two_serve : {a b : Standing} → Serves u a → Serves u b → ((p : Standing) → Serves u p → (p ≡ a) ⊎ (p ≡ b)) → (a ≡ b) ⊎ Preferred u a b
      → Split u (either a b)

split : (u : TextUnit) → good u ≡ true → Split u (need u)
unfolding need
split (char c k) g = go (allowed GL c) (allowed GR c) refl refl (good_side c k g)
  where
    which : (p : Standing) → p.set ≡ c → (p ≡ on GL c) ⊎ (p ≡ on GR c)
    which p e = by_side _ _ e
      where
        by_side : (d : Side) (n : ℕ) → n ≡ c → (on d n ≡ on GL c) ⊎ (on d n ≡ on GR c)
        by_side GL n e = inl (ap (on GL) e)
        by_side GR n e = inr (ap (on GR) e)

    go : (x y : Bool) → allowed GL c ≡ x → allowed GR c ≡ y → (x || y) ≡ true → Split (char c k) (places_of x y c)
    go true true p q l = two_serve (refl, p) (refl, q) (λ r h. which r h.0) (inr (refl, refl))
    go true false p q l = two_serve (refl, p) (refl, p) (λ r h. ⊎_elim inl (λ e. off (sym q ∙ (rw e at h.1))) (which r h.0)) (inl refl)
    go false y p q l =
        two_serve (refl, q ∙ l) (refl, q ∙ l) (λ r h. ⊎_elim (λ e. off (sym p ∙ (rw e at h.1))) inl (which r h.0)) (inl refl)
split space g =
    two_serve (refl, inl refl) (refl, inr refl)
    (λ p h. ⊎_elim (λ e. inl (ap₂ on h.0 e)) (λ e. inr (ap₂ on h.0 e)) h.1)
    (inr (refl, refl))
split (control x) g = none_serves (λ p h. h)
split (ext e xs) g = none_serves (λ p h. h)

-- ---- lazy strings read as the units

serves_allowed : (u : TextUnit) (p : Standing) → Serves u p → allowed p.side p.set ≡ true
unfolding allowed may_use
serves_allowed (char c k) p h = h.1
serves_allowed space p h = ⊎_elim (ap₂ allowed h.0) (ap₂ allowed h.0) h.1
serves_allowed (control x) p h = absurd h
serves_allowed (ext e xs) p h = absurd h

after_legal : (u : TextUnit) (s : Sets) (o : Option Standing) → MayPrecede u s o → Legal s → Legal (after o s)
after_legal u s none m l = l
after_legal u s (some p) m l = put_legal p s (serves_allowed u p m.0) l

pub lazy_reads : {s : Sets} {us : List TextUnit} {os : List (Option Standing)} {t : List ℕ} → Lazy s us os t → Reads s t us
lazy_reads nil = done
lazy_reads (next u none d g m h f r) = show u d g h (lazy_reads r)
lazy_reads (next u (some p) d g m h f r) = designate p (serves_allowed u p m.0) (show u d g h (lazy_reads r))

-- no lazy string is shorter than the cost
pub lazy_lower : {s : Sets} {us : List TextUnit} {os : List (Option Standing)} {t : List ℕ} → Legal s → Lazy s us os t → cost us s ≤ length t
lazy_lower l r = lower l (lazy_reads r)

-- ---- what may precede a unit is what its need permits

-- what may be designated for a need: nothing where it is met, else one of its places
abbrev Permitted : Need → Sets → Option Standing → Type 0
Permitted n s none = met n s ≡ true
Permitted free s (some p) = ⊥
Permitted (either a b) s (some p) = (met (either a b) s ≡ false) × ((p ≡ a) ⊎ (p ≡ b))

permitted : (u : TextUnit) (s : Sets) (o : Option Standing) (d : Side) → Legal s → good u ≡ true → MayPrecede u s o → Shows u d (after o s)
    → Permitted (need u) s o
unfolding met
permitted u s none d l g m h = shows_met u d s l h
permitted u s (some p) d l g m h = go (need u) (split u g)
  where
    go : (n : Need) → Split u n → Permitted n s (some p)
    go free (none_serves k) = k p m.0
    go (either a b) (two_serve x y k z) = (ap₂ ◌||◌ (m.1 a x) (m.1 b y), k p m.0)

precedes : (u : TextUnit) (s : Sets) (o : Option Standing) → good u ≡ true → Permitted (need u) s o → MayPrecede u s o
unfolding met
precedes u s none g m = tt
precedes u s (some p) g m = go (need u) (split u g) m
  where
    go : (n : Need) → Split u n → Permitted n s (some p) → MayPrecede u s (some p)
    go free (none_serves k) m = absurd m
    go (either a b) (two_serve x y k z) m =
        let n = or_none _ _ m.0 in (
          ⊎_elim (λ e. rw e x) (λ e. rw e y) m.1,
          λ q h. ⊎_elim (λ e. rw e n.0) (λ e. rw e n.1) (k q h),
        )

-- ---- among the shortest the writer's is first

-- a permitted choice costs at least the least
least_permitted : (n : Need) (f : Sets → ℕ) (s : Sets) (o : Option Standing) → Permitted n s o → least n f s ≤ spent o + f (after o s)
unfolding least
least_permitted free f s none p = omega arith
least_permitted free f s (some q) p = absurd p
least_permitted (either a b) f s none p = rw p (omega arith)
least_permitted (either a b) f s (some q) p =
    rw p.0 (⊎_elim (λ e. rw e (omega arith)) (λ e. rw e (omega arith)) p.1)

one_length : (t : List ℕ) (u : TextUnit) (d : Side) (o : Option Standing) → length (designated o ++ (octets d u ++ t)) ≡ spent o + (unit_size u + length t)
one_length t u d o = omega (arith, length-append (designated o) (octets d u ++ t), length-append (octets d u) t, spent_length o, size_side d u)

-- a best choice is the writer's, or the writer's is preferred
abbrev Best : TextUnit → Option Standing → Option Standing → Type 0
Best u chosen o = (o ≡ chosen) ⊎ ((a : Standing) × (b : Standing) × Preferred u a b × (chosen ≡ some a) × (o ≡ some b))

best : (u : TextUnit) (n : Need) (f : Sets → ℕ) (s : Sets) (o : Option Standing) → Split u n → Permitted n s o
    → least n f s ≡ spent o + f (after o s)
    → Best u (choose n f s) o
unfolding choose least
best u free f s none z p e = inl refl
best u free f s (some q) z p e = absurd p
best u (either a b) f s none z p e = inl (rw p)
best u (either a b) f s (some q) (two_serve sa sb k z) p e = go (chose a b f s) p.1 z
  where
    least-q : min (via a f s) (via b f s) ≡ via q f s
    least-q = rw p.0 at e

    go : {o : Option Standing} → Chose a b f s o → (q ≡ a) ⊎ (q ≡ b) → (a ≡ b) ⊎ Preferred u a b → Best u o (some q)
    go (nothing m) y z = off (sym p.0 ∙ m)
    go (the_first m l) (inl y) z = inl (ap some y)
    go (the_first m l) (inr y) (inl z) = inl (ap some (y ∙ sym z))
    go (the_first m l) (inr y) (inr z) = inr (a, b, z, refl, ap some y)
    go (the_second m l) (inr y) z = inl (ap some y)
    go (the_second m l) (inl y) z = absurd (omega (arith, least-q, l, ap (λ (r : Standing). via r f s) y))

-- what the writer designates before each unit
unfoldable pub choices : List TextUnit → Sets → List (Option Standing)
choices [] s = []
choices (u ∷ us) s = choose (need u) (cost us) s ∷ choices us (after (choose (need u) (cost us) s) s)

pub first : {s : Sets} {us : List TextUnit} {os : List (Option Standing)} {t : List ℕ} → Legal s → Lazy s us os t → length t ≡ cost us s
    → (os ≡ choices us s) ⊎ Before us (choices us s) os
unfolding cost choices
first l nil e = inl refl
first {s} l (next {us = us} {os = os} {t = t} u o d g m h f r) e =
    ⊎_elim
    (λ q. rw (← q) (⊎_elim (λ h. inl (ap (λ (x : List (Option Standing)). o ∷ x) h)) (λ h. inr (later u o h)) (first l' r tail)))
    (λ w. rw (w.3, w.4) (inr (here u w.0 w.1 w.2)))
    (best u _ (cost us) s o (split u g) p (omega (arith, lazy_lower l' r, least_permitted _ (cost us) s o p, one_length t u d o)))
  where
    p : Permitted (need u) s o
    p = permitted u s o d l g m h

    l' : Legal (after o s)
    l' = after_legal u s o m l

    tail : length t ≡ cost us (after o s)
    tail = omega (arith, lazy_lower l' r, least_permitted _ (cost us) s o p, one_length t u d o)

-- ---- the writer's string is a lazy string

choose_permitted : (n : Need) (f : Sets → ℕ) (s : Sets) → Permitted n s (choose n f s)
unfolding choose met
choose_permitted free f s = refl
choose_permitted (either a b) f s = go (chose a b f s)
  where
    go : {o : Option Standing} → Chose a b f s o → Permitted (either a b) s o
    go (nothing e) = e
    go (the_first e l) = (e, inl refl)
    go (the_second e l) = (e, inr refl)

-- a unit is written in GL where its set stands there
used_left : (u : TextUnit) (s : Sets) → met (need u) s ≡ true → Legal s → LeftFirst u (used (need u) s) s
unfolding need used stands
used_left (char c k) s m l = λ e. go e _ _ refl
  where
    go : s.gl ≡ c → (x y : Bool) → allowed GL c ≡ x → used (places_of x y c) s ≡ GL
    go e true true q = rw (eq-eqb s.gl c e)
    go e true false q = rw (eq-eqb s.gl c e)
    go e false y q = off (sym q ∙ (rw e at l.left))
used_left space s m l = tt
used_left (control x) s m l = tt
used_left (ext e xs) s m l = tt

pub writing_lazy : (us : List TextUnit) (s : Sets) → Legal s → Good us → Lazy s us (choices us s) (writing us s)
unfolding choices writing
writing_lazy [] s l g = nil
writing_lazy (u ∷ us) s l g =
    let e = chosen_met (need u) (cost us) s in
    next u o _ g.0 m (met_shows u (after o s) e) (used_left u (after o s) e l')
    (writing_lazy us (after o s) l' g.1)
  where
    o : Option Standing
    o = choose (need u) (cost us) s

    m : MayPrecede u s o
    m = precedes u s o g.0 (choose_permitted (need u) (cost us) s)

    l' : Legal (after o s)
    l' = after_legal u s o m l

-- ---- that string exists and is one

pub the_choice : (us : List TextUnit) (s : Sets) → Legal s → Good us → Chosen us s (choices us s) (writing us s)
the_choice us s l g =
    record {
      lazy = writing_lazy us s l g;
      shortest = λ ps w r. omega (arith, writing_length us s, lazy_lower l r);
      first = λ ps w r e. first l r (e ∙ writing_length us s);
    }

-- what is designated decides the string
same_octets : (u : TextUnit) (d e : Side) (s : Sets) → Shows u d s → Shows u e s → LeftFirst u d s → LeftFirst u e s → octets d u ≡ octets e u
unfolding octets
same_octets (char c k) GL GL s x y f g = refl
same_octets (char c k) GR GR s x y f g = refl
same_octets (char c k) GL GR s x y f g = ap (λ (d : Side). octets d (char c k)) (sym (g x))
same_octets (char c k) GR GL s x y f g = ap (λ (d : Side). octets d (char c k)) (f y)
same_octets space d e s x y f g = refl
same_octets (control n) d e s x y f g = refl
same_octets (ext n xs) d e s x y f g = refl

lazy_one : {s : Sets} {us : List TextUnit} {os : List (Option Standing)} {t w : List ℕ} → Lazy s us os t → Lazy s us os w → t ≡ w
lazy_one nil nil = refl
lazy_one {s} (next u o d g m h f r) (next _ _ e g' m' h' f' r') =
    ap₂ (λ x y. designated o ++ (x ++ y)) (same_octets u d e _ h h' f f') (lazy_one r r')

not_both : (u : TextUnit) (a b : Standing) → Preferred u a b → Preferred u b a → ⊥
not_both (char c k) a b p q = clash (cc (p.0, q.1))
not_both space a b p q = omega (arith, p.0, q.1)
not_both (control x) a b p q = p
not_both (ext n xs) a b p q = p

one_way : {us : List TextUnit} {os ps os' ps' : List (Option Standing)} → Before us os ps → Before us ps' os' → os ≡ os' → ps ≡ ps' → ⊥
one_way (here u a b p) (here _ c d q) e f = let h : a ≡ d = cc in let k : b ≡ c = cc in not_both u a b p (rw (h, k) q)
one_way (here u a b p) (later _ o q) e f = let h : b ≡ a = cc in not_both u a a (rw h at p) (rw h at p)
one_way (later u o p) (here _ c d q) e f = let h : d ≡ c = cc in not_both u c c (rw h at q) (rw h at q)
one_way (later {os = os} {ps = ps} u o p) (later {os = ps'} {ps = os'} _ _ q) e f = let h : os ≡ os' = cc in let k : ps ≡ ps' = cc in one_way p q h k

pub one_choice : (us : List TextUnit) (s : Sets) (os : List (Option Standing)) (t : List ℕ) → Legal s → Good us → Chosen us s os t
    → t ≡ writing us s
one_choice us s os t l g c = go (first l c.lazy (same ∙ writing_length us s)) (c.first (choices us s) (writing us s) w (sym same))
  where
    w : Lazy s us (choices us s) (writing us s)
    w = writing_lazy us s l g

    same : length t ≡ length (writing us s)
    same = omega (arith, lazy_lower l c.lazy, writing_length us s, c.shortest (choices us s) (writing us s) w)

    equal : os ≡ choices us s → t ≡ writing us s
    equal e = lazy_one (rw e at c.lazy) w

    go : (os ≡ choices us s) ⊎ Before us (choices us s) os → (choices us s ≡ os) ⊎ Before us os (choices us s) → t ≡ writing us s
    go (inl e) y = equal e
    go (inr x) (inl e) = equal (sym e)
    go (inr x) (inr y) = absurd (one_way x y refl refl)
