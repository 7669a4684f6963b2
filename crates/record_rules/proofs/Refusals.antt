-- The refusals of a record, case by case: by its kind, of a character, of a segment.
use Rattle.element.proofs.Names.{ℕ, ◌+◌, ◌-◌, ◌≤◌, ◌<◌, arith, ◌≡◌, refl, ap, sym, subst, ◌∙◌, Bool, true, false, cond, List, some, leb, length}
use Rattle.element.proofs.Names.{take, drop, length-take, length-drop, ne_eqb, le-leb, lt-leb, le-ltb, lt-ltb, clash, test, on_gt, pick, UnitRecord, no_set}
use Rattle.element.proofs.Names.{form_of, step_of, Directions, Step, Stops, Part, Shape, Refuses, Gives}
use Rattle.base.proofs.Bools.{◌&◌, each}
use Rattle.base.proofs.Ladder.{on_le}
use Rattle.base.specs.Kind as kind
use Rattle.base.specs.Refusal as refusal
use Rattle.std.proofs.Common.{Result, Ok, Err}
use Rattle.segment.specs.Segment.{Name, Ends, Bad, Endless, name_seen}
use Rattle.segment.specs.declared.BadName.{BadName}
use Rattle.segment.specs.declared.BadName.TheVariants.{Octet, Endless as CodeEndless}
use Rattle.segment.specs.Segment.{segment_part, name_of, whole_of, content_of}
use Rattle.state.specs.Directions.{counts_as_text}
use Rattle.grammar.specs.Units.{char, ext, unit_of, text_octets, code_used, segment, good}
use Rattle.grammar.specs.Reading.{direct}
use Rattle.grammar.proofs.Segment.{Content, right, wrong, content}
use Rattle.grammar.specs.Records.{readable, unit_read}
use Rattle.shortest.specs.Records.{fault}

-- ---- by the kind

module _ (o : List ℕ) (r : UnitRecord) (d : Directions) where
  pub kind_character : r.kind ≡ kind.character → fault (some (char r.set r.code)) d ≡ fault (unit_read o r) d
  unfolding unit_read readable unit_of
  kind_character e = rw e

  pub kind_plain : (r.kind ≡ kind.character → ⊥) → r.kind < kind.segment → step_of (counts_as_text r.kind 0) r.kind d ≡ fault (unit_read o r) d
  unfolding unit_read readable unit_of good
  kind_plain n h =
      each 7 (λ k. r.kind ≡ k → step_of (counts_as_text r.kind 0) r.kind d ≡ fault (unit_read o r) d)
      ((λ e. absurd (n e)) & (λ e. rw e) & (λ e. rw e) & (λ e. rw e) & (λ e. rw e) & (λ e. rw e) & (λ e. rw e) & tt) r.kind h refl

  pub kind_segment : r.kind ≡ kind.segment
      → pick (leb (r.start + r.length) (length o)) (fault (some (ext r.code (take r.length (drop r.start o)))) d) (Stops refusal.bad_unit)
      ≡ fault (unit_read o r) d
  unfolding unit_read readable unit_of pick
  kind_segment e = rw e (test (leb (r.start + r.length) (length o)) (λ q. rw q) (λ q. rw q))

  pub kind_none : kind.segment < r.kind → Stops refusal.bad_unit ≡ fault (unit_read o r) d
  unfolding unit_read readable
  kind_none h = rw (ne_eqb r.kind 7 (λ e. omega arith), le-ltb r.kind 7 (omega arith))

-- ---- a character

module _ (c k : ℕ) (d : Directions) where
  pub set_none : no_set ≤ c → Stops refusal.bad_unit ≡ fault (some (char c k)) d
  unfolding good
  set_none h = rw (le-ltb c no_set h)

  pub code_unused : c < no_set → code_used (form_of c) k ≡ false → Stops refusal.bad_unit ≡ fault (some (char c k)) d
  unfolding good
  code_unused h e = rw (lt-ltb c no_set h, e)

  pub code_fits : c < no_set → code_used (form_of c) k ≡ true → step_of (counts_as_text kind.character 0) kind.character d ≡ fault (some (char c k)) d
  unfolding good
  code_fits h e = rw (lt-ltb c no_set h, e)

-- ---- a segment's part of the octets lent

module _ (o : List ℕ) (e s n : ℕ) (d : Directions) where
  abbrev part : List ℕ
  part = take n (drop s o)

  abbrev pub part_fault : Step
  part_fault = pick (leb (s + n) (length o)) (fault (some (ext e part)) d) (Stops refusal.bad_unit)

  pub part_outside : length o < s + n → Stops refusal.bad_unit ≡ part_fault
  part_outside h = on_gt (s + n) (length o) _ _ _ h refl

  module _ (starts : s ≤ length o) (ends : n ≤ length o - s) where
    inside : (x : Step) → x ≡ fault (some (ext e part)) d → x ≡ part_fault
    inside x q = on_le (s + n) (length o) _ _ _ (omega arith) q

    count : n ≡ length part
    count = simp (length-take, length-drop) (omega arith)

    pub part_low : e < 0x30 → Stops refusal.bad_unit ≡ part_fault
    unfolding good
    part_low h = inside _ (rw (lt-leb 0x30 e h))

    pub part_high : 0x30 ≤ e → 0x34 < e → Stops refusal.bad_unit ≡ part_fault
    unfolding good
    part_high l h = inside _ (rw (le-leb 0x30 e l, lt-leb e 0x34 h))

    module _ (l : 0x30 ≤ e) (h : e ≤ 0x34) where
      pub part_many : 16383 < n → Stops refusal.bad_segment ≡ part_fault
      unfolding good
      part_many m = inside _ (rw (le-leb 0x30 e l, le-leb e 0x34 h, lt-leb (length part) 16383 (omega (arith, count))))

      -- by where the name in the segment's octets ends
      module _ (m : n ≤ 16383) (name : Name) (is : name ≡ name_of (take (s + n - s) (drop s o)) 0) where
        by-content : Content e n (text_octets part) (segment e 0 part) (content_of e n name)
        by-content =
            let back : s + n - s ≡ n = omega arith in
            subst (λ (x : Name). Content e n (text_octets part) (segment e 0 part) (content_of e n x))
            (sym (is ∙ ap (λ (y : ℕ). name_of (take y (drop s o)) 0) back)) (content e n part 0 (omega (arith, count)))

        judged : (b : Bool) → segment e 0 part ≡ b → cond b (direct d (ext e part)) (Stops refusal.bad_segment) ≡ part_fault
        unfolding good
        judged b q = inside _ (rw (le-leb 0x30 e l, le-leb e 0x34 h, le-leb (length part) 16383 (omega (arith, count)), q))

        refused : (p : ℕ) → content_of e n name ≡ Refuses refusal.bad_segment p → Stops refusal.bad_segment ≡ part_fault
        refused p r = by by-content r refl
          where
            by : {b : Bool} {x : Shape} → Content e n (text_octets part) b x → x ≡ Refuses refusal.bad_segment p → segment e 0 part ≡ b
                → Stops refusal.bad_segment ≡ part_fault
            by right q g = clash (cc q)
            by wrong q g = judged false g

        -- a name that ends, and a text of whole characters or not
        module _ {k : ℕ} (i : name ≡ Ends k) where
          pub part_found : whole_of e (n - k - 1) ≡ true → step_of (counts_as_text kind.segment (n - k - 1)) kind.segment d ≡ part_fault
          unfolding content_of pick
          part_found w = by by-content (rw (i, w)) refl
            where
              by : {b : Bool} {x : Shape} → Content e n (text_octets part) b x → x ≡ Gives (segment_part e n (n - k - 1)) → segment e 0 part ≡ b
                  → step_of (counts_as_text kind.segment (n - k - 1)) kind.segment d ≡ part_fault
              by right q g =
                  let f : segment_part e n (n - k - 1) ≡ segment_part e n (text_octets part) = cc q in
                  ap (λ (y : Part). step_of y.text kind.segment d) f ∙ judged true g
              by wrong q g = clash (cc q)

          pub part_ragged : whole_of e (n - k - 1) ≡ false → Stops refusal.bad_segment ≡ part_fault
          unfolding content_of pick
          part_ragged w = refused (5 + n) (rw (i, w))

        pub part_bad : ((k : ℕ) → name ≡ Ends k → ⊥) → Stops refusal.bad_segment ≡ part_fault
        unfolding content_of
        part_bad never = by name refl
          where
            by : (x : Name) → name ≡ x → Stops refusal.bad_segment ≡ part_fault
            by (Ends k) q = absurd (never k q)
            by (Bad k) q = refused (6 + k) (rw q)
            by Endless q = refused (5 + n) (rw q)

-- a name that the code finds no end of
pub not_ended : (r : Result ℕ BadName) → ((k : ℕ) → r ≡ Ok k → ⊥) → (k : ℕ) → name_seen r ≡ Ends k → ⊥
not_ended (Ok j) n k e = n j refl
not_ended (Err (Octet j)) n k e = clash (cc e)
not_ended (Err CodeEndless) n k e = clash (cc e)
