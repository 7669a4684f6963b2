-- Shorter forms of the steps that a proof by hand takes most.
--     var, arg          the value of a local, and one more of them in a list of operands
--     part              the value of a field of a local
--     large             a large constant
--     sets, resets      a local that is empty, or that holds something, is assigned to; `resets_last` where the assignment ends a turn
--     lands_in          what a call answers is stored to a local that is empty; `lands_over`, to one that holds something
--     recasts           what a cell holds, written another way
--     behind, resliced  a slice that a local holds is borrowed again, as for a call
--     in64, sliced      a number of 64 bits, and a slice of so many elements, are values of their types
--     beside            of a list of parameters: what the value of a plain type owns, put before what the others own
--     number            the same of a number of 64 bits
--     joins, fjoins     an entry is put before the head, with it
--     copies            what a `&` of a slice owns, twice
--     past, front       of formulas under ∗: the first is let go, or all but the first
use types.Logic.{Logic, sem}
use denote.Ref.{Bor}
use denote.RattleType.{RowLaws}
use Rattle.walks.proofs.Names.{◌≡◌, refl, sym, ◌∙◌, ap, subst, ℕ, suc, ◌<◌, ◌^◌, true, List, [], ◌∷◌, Ura, full_share, get_or, w64, Val, vint}
use Rattle.walks.proofs.Names.{vptr, id⊢, Lft, Fml, fsep, fat, Env, Calls, Loops, sem, join, Item, ‵, prop, runs, ◌$◌, ◌⊛◌}
use Rattle.walks.proofs.Names.{move, let_go as drop, use1, split, rewrite, fsplit, fjoin, look, init, store, stop, hop, fld, from, load, addr}
use Rattle.walks.proofs.Names.{and_then, no_more, assigns, assigns_last, agg, whole, sub, look_in, RattleType, usize, uint_Makes, Is, slice_val}
use Rattle.walks.proofs.Names.{ShrSlice, shr_slice_copy, owned, via}
use Prim.Native.Nat.{zero}
use mathlib.Core.Option.{some}
use lib.Dec.{T}
use mir.Syntax.{Lifetime, Width, Sym, Ty, Tys, ty_struct, ty_enum, ttnil, ty_int, deref, field, place, Opd as Operand, copy, int_big, Rv as RValue, addr_of}
use mir.Syntax.{aggregate, Body, seq, assign}
use mir.Val.{vstruct, Vals, of_list, WT, Fits, bits, has_ty}
use base.Logic.{guard_i}
use mir.Fields.{get_v}
use base.Fml.{froom}
use prog.Memory.{field_of, field_at}
use prog.Wp.{next}
use types.Kit.{del, nth, put, Post, post, Goal, lands, Step, step}
use types.Run.{Opd, Opds, Rv, land}
use types.Part.{Part}
use denote.Laws.{Makes}
use denote.Slice.{slice_ty}

pub in64 : {n : ℕ} → n < 2 ^ 64 → T (has_ty (ty_int w64) (vint w64 n)) × WT (vint w64 n)
in64 h = (tt, record { fits = h })

pub sliced : {n : ℕ} → n < 2 ^ 64 → T true × (Unit {0} × (WT (vint w64 n) × Unit {0}))
sliced h = (tt, (tt, (record { fits = h }, tt)))

-- local i of an environment; an entry that is a local, empty or with a value; the value is one of the local's type
abbrev spot : List (Ty × ℕ) → ℕ → Ty × ℕ
spot E i = get_or E i (ty_enum [] ttnil, zero)

module _ {M : Type 1} {𝓤 : Ura M} (e : Ty × ℕ) where
  abbrev pub vacant : Item 𝓤
  vacant = ‵ (froom e.0 e.1 zero)

  abbrev pub holding : Val → Item 𝓤
  holding v = ‵ (fat full_share e.0 e.1 zero v)

abbrev pub Suits : Ty × ℕ → Val → Type 0
Suits e v = T (has_ty e.0 v) × WT v

is_cell : {M : Type 1} {𝓤 : Ura M} {𝓛 : Logic 𝓤} {K : Type 0} → K → {j : Item 𝓤} (e : Ty × ℕ) (v : Val)
    → j ≡ holding e v
    → Part K 𝓛 j full_share e.0 e.1 zero v (holding e)
is_cell {M} {𝓤} {𝓛} {K} t e v is = subst (λ (k : Item 𝓤). Part K 𝓛 k full_share e.0 e.1 zero v (holding e)) (sym is) (whole t)

module _ {M : Type 1} {𝓤 : Ura M} {𝓛 : Logic 𝓤} {K : Type 0} {Γ : List (Item 𝓤)} where
  open 𝓛 use {H}

  module _ {E : Env 𝓤 H} where
    pub var : K → (n : ℕ) {i : ℕ} {v : Val} → nth 𝓛 n Γ ≡ holding (spot E i) v → Opd K 𝓛 Γ E (copy (place i [])) v
    var t n e = load t (from t (stop t)) (look t n e)

    pub arg : K → (n : ℕ) {i : ℕ} {v : Val} {xs : List Operand} {vs : List Val} → nth 𝓛 n Γ ≡ holding (spot E i) v → Opds K 𝓛 Γ E xs vs
        → Opds K 𝓛 Γ E (copy (place i []) ∷ xs) (v ∷ vs)
    arg t n e os = and_then t (var t n e) os

    -- a constant above 1023, whose bound is shown
    pub large : K → {w : Width} {n : ℕ} → n < 2 ^ bits w → Opd K 𝓛 Γ E (int_big w n) (vint w n)
    large t {w} {n} h = record { go = λ Kt k. via 𝓤 (Kt (vint w n)) k (guard_i 𝓤 (Fits w n) (Kt (vint w n)) (record { fits = h })) }

    -- local i, a struct, at entry n
    module _ {i : ℕ} {ν : Sym} {τs : Tys} {vs : Vals} where
      pub part : K → (n k : ℕ) {τ : Ty} {d : ℕ} → (spot E i).0 ≡ ty_struct ν τs
          → nth 𝓛 n Γ ≡ holding (ty_struct ν τs, (spot E i).1) (vstruct vs)
          → field_at zero τs k ≡ some (τ, d) → Opd K 𝓛 Γ E (copy (place i (field k ∷ []))) (get_v vs k)
      part t n k is e f = load t (from t (fld t (ap (λ (σ : Ty). field_of σ k) is ∙ f) (stop t)))
          (look_in t n (sub t k f (is_cell t (ty_struct ν τs, (spot E i).1) (vstruct vs) e)))

    module _ {i : ℕ} {ρ : Ty} {p : ℕ × ℕ} {l : ℕ} where
      -- where its elements lie, and the slice of that pointer and the old count
      pub behind : K → (n : ℕ) {σ : Ty} → (spot E i).0 ≡ slice_ty ρ
          → nth 𝓛 n Γ ≡ holding (slice_ty ρ, (spot E i).1) (slice_val p l)
          → Rv K 𝓛 Γ E (addr_of (place i (field 0 ∷ deref σ ∷ []))) (vptr p.0 p.1)
      behind t n is e = addr t (from t
          (fld t (ap (λ (τ : Ty). field_of τ 0) is) (hop t (look_in t n (sub t 0 refl (is_cell t (slice_ty ρ, (spot E i).1) (slice_val p l) e))) (stop t))))

      pub resliced : K → (m n : ℕ) {j : ℕ} {v : Val} → nth 𝓛 m Γ ≡ holding (spot E j) v → (spot E i).0 ≡ slice_ty ρ
          → nth 𝓛 n Γ ≡ holding (slice_ty ρ, (spot E i).1) (slice_val p l)
          → Rv K 𝓛 Γ E (aggregate (copy (place j []) ∷ copy (place i (field 1 ∷ [])) ∷ [])) (vstruct (of_list (v ∷ vint w64 l ∷ [])))
      resliced t m n d is e = agg t (arg t m d (and_then t (part t n 1 is e refl) (no_more t)))

    module _ {C : Calls 𝓤 H} {Λ : Loops 𝓤 H} {p : Post 𝓤 H} {i : ℕ} {v : Val} where
      module _ {rest : Body} where
        pub sets : K → (n : ℕ) {rv : RValue} → Rv K 𝓛 Γ E rv v → nth 𝓛 n Γ ≡ vacant (spot E i) → Suits (spot E i) v
            → Step K 𝓛 (put 𝓛 n (holding (spot E i) v) Γ) (runs C Λ E rest p) Γ (runs C Λ E (seq (assign (place i []) rv) rest) p)
        sets t n r e wt = assigns t r (from t (stop t)) (init t n e wt)

        pub resets : K → (n : ℕ) {rv : RValue} {u : Val} → Rv K 𝓛 Γ E rv v → nth 𝓛 n Γ ≡ holding (spot E i) u → Suits (spot E i) v
            → Step K 𝓛 (put 𝓛 n (holding (spot E i) v) Γ) (runs C Λ E rest p) Γ (runs C Λ E (seq (assign (place i []) rv) rest) p)
        resets t n r e wt = assigns t r (from t (stop t)) (store t n e wt)

        pub lands_in : K → (n : ℕ) → nth 𝓛 n Γ ≡ vacant (spot E i) → Suits (spot E i) v
            → Step K 𝓛 (put 𝓛 n (holding (spot E i) v) Γ) (runs C Λ E rest p) Γ (lands C Λ E (place i []) v rest p)
        lands_in t n e wt = land t (from t (stop t)) (init t n e wt)

        pub lands_over : K → (n : ℕ) {u : Val} → nth 𝓛 n Γ ≡ holding (spot E i) u → Suits (spot E i) v
            → Step K 𝓛 (put 𝓛 n (holding (spot E i) v) Γ) (runs C Λ E rest p) Γ (lands C Λ E (place i []) v rest p)
        lands_over t n e wt = land t (from t (stop t)) (store t n e wt)

      pub resets_last : K → (n : ℕ) {rv : RValue} {u : Val} → Rv K 𝓛 Γ E rv v → nth 𝓛 n Γ ≡ holding (spot E i) u → Suits (spot E i) v
          → Step K 𝓛 (put 𝓛 n (holding (spot E i) v) Γ) (prop (post 𝓤 H p next)) Γ (runs C Λ E (assign (place i []) rv) p)
      resets_last t n r e wt = assigns_last t r (from t (stop t)) (store t n e wt)

  module _ {G : Goal 𝓤 H} where
    pub recasts : K → (n : ℕ) {X : Type 0} (f : X → Val) {x y : X} {τ : Ty} {b : ℕ} → y ≡ x
        → nth 𝓛 n Γ ≡ ‵ (fat full_share τ b zero (f y))
        → Step K 𝓛 (put 𝓛 n (‵ (fat full_share τ b zero (f x))) Γ) G Γ G
    recasts t n {X} f {x} {y} {τ} {b} e at_n = rewrite t n (λ (z : X). ‵ (fat full_share τ b zero (f z))) e at_n

    pub beside : K → (R : RattleType) → Makes 𝓛 R (Is R) → (x : R.Denot) (vs : List Val) → Is R x vs → {P : Fml}
        → Step K 𝓛 (‵ (fsep (R.own_val x vs) P) ∷ Γ) G (‵ P ∷ Γ) G
    beside t R mk x vs is = step (λ s. owned t R (Is R) mk x vs is $ fjoin t $ s)

    pub past : K → {P Q : Fml} → Step K 𝓛 (‵ Q ∷ Γ) G (‵ (fsep P Q) ∷ Γ) G
    past t = step (λ s. fsplit t $ drop t $ s)

    pub front : K → {P Q : Fml} → Step K 𝓛 (‵ P ∷ Γ) G (‵ (fsep P Q) ∷ Γ) G
    front t = step (λ s. fsplit t $ move t (1 ∷ []) $ drop t $ s)

    pub copies : K → (ℓ : Lifetime) (κ : Lft) (R : RattleType) → RowLaws R → (s : Bor (List R.Denot)) (vs : List Val)
        → Step K 𝓛 (‵ ((ShrSlice ℓ κ R).own_val s vs) ∷ ‵ ((ShrSlice ℓ κ R).own_val s vs) ∷ Γ) G (‵ ((ShrSlice ℓ κ R).own_val s vs) ∷ Γ) G
    copies t ℓ κ R L s vs =
        step (λ z. use1 𝓛 (‵ ((ShrSlice ℓ κ R).own_val s vs) ⊛ ‵ ((ShrSlice ℓ κ R).own_val s vs)) ((shr_slice_copy 𝓛 ℓ κ R L).twice s vs) $
        split t $ z)

    pub number : K → (n : ℕ) → n < 2 ^ 64 → {P : Fml} → Step K 𝓛 (‵ (fsep (usize.own_val n (vint w64 n ∷ [])) P) ∷ Γ) G (‵ P ∷ Γ) G
    number t n h = beside t usize (uint_Makes 𝓛 w64) n (vint w64 n ∷ []) (refl, h)

    -- entry n after the head is put before it
    pub joins : K → (n : ℕ) {i j : Item 𝓤} → nth 𝓛 n Γ ≡ i → Step K 𝓛 ((i ⊛ j) ∷ del 𝓛 n Γ) G (j ∷ Γ) G
    joins t n e = step (λ s. move t (suc n ∷ []) $ rewrite t 0 (λ (i : Item 𝓤). i) e refl $ join t $ s)

    pub fjoins : K → (n : ℕ) {P Q : Fml} → nth 𝓛 n Γ ≡ ‵ P → Step K 𝓛 (‵ (fsep P Q) ∷ del 𝓛 n Γ) G (‵ Q ∷ Γ) G
    fjoins t n {P} {Q} e = step (λ s. joins t n e $ use1 𝓛 (‵ (fsep P Q)) (id⊢ 𝓤 (sem 𝓛 (fsep P Q))) $ s)
