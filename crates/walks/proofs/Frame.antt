-- The locals of a function, all at once. In the context of a walk they stand after what else is owned, the last local first.
--     Blocks, envOf   the blocks that the locals get at the entry, and the environment that the code then runs in
--     laid            the locals of an environment, each empty or with a value; those that no value is given for are empty
--     enters-with     into a function: its locals are allocated, after what else is owned, and its parameters stored
--     clears          of the entries from a place on, so many are made room again, whatever they hold
--     leaves          the locals are freed at a return: what is left is what stands before them
use mathlib.Core.Path.{◌≡◌, refl, sym, ◌∙◌, ap, subst}
use Prim.Native.Nat.{ℕ, zero, suc}
use mathlib.Core.List.{List, [], ◌∷◌, ◌++◌}
use seplogic.Ra.Ura.{Ura}
use base.Fraction.{full_share}
use lib.Dec.{T}
use mir.Syntax.{Ty, Local, local, Fn}
use mir.Val.{Val, WT, has_ty}
use base.Logic.{SProp, ent, sep, via, id⊢, comm∗, mono∗, mono_r, assoc'}
use base.Fml.{Share, Fml, ftrue, ffalse, feq, flt, fsep, fand, for, fwand, fex, fall, fupd, fat, froom, fdies, flft, fdead, fobs, fauth, fres, fbor, fobor}
use base.Fml.{flent, fshr_bor, fhide, fleft, fown, finv, fnamed, ftok, fkid, fme, fsent}
use prog.Wp.{Calls, Loops, WpFn, release}
use types.Logic.{Logic}
use types.Kit.{Item, ‵, raw, ◌⊛◌, some, given, later, mean, ⋆, nth, del, put, pull, push, pop, ++⊢, ⊢++, Goal, prop, runs, at_ret, allocs}
use types.Kit.{params', passes, frees, aim, Seq, Step, step, ◌$◌}
use types.Run.{Writes, init, enter, alloc1, alloc0, params1, pass1, pass0}

-- what a local holds
pub data Holds : Type 0 where
  empty : Holds
  full : Val → Holds

abbrev cell : {M : Type 1} {𝓤 : Ura M} → Ty × ℕ → Holds → Item 𝓤
cell e empty = ‵ (froom e.0 e.1 zero)
cell e (full v) = ‵ (fat full_share e.0 e.1 zero v)

abbrev pub Blocks : List Local → Type 0
Blocks [] = Unit {0}
Blocks (l ∷ ls) = ℕ × Blocks ls

abbrev pub env_of : (ls : List Local) → Blocks ls → List (Ty × ℕ)
env_of [] bs = []
env_of (local τ h ∷ ls) bs = (τ, bs.0) ∷ env_of ls bs.1

-- the values as those that the first locals hold
abbrev pub each_full : List Val → List Holds
each_full [] = []
each_full (v ∷ vs) = full v ∷ each_full vs

-- the values fit the types of the locals after the first
abbrev pub Fit : List (Ty × ℕ) → List Val → Type 0
Fit E [] = Unit {0}
Fit [] (v ∷ vs) = ⊥
Fit (e ∷ E) (v ∷ vs) = (T (has_ty e.0 v) × WT v) × Fit E vs

abbrev pub FitAfter : List (Ty × ℕ) → List Val → Type 0
FitAfter [] vs = ⊥
FitAfter (e ∷ E) vs = Fit E vs

-- ---- shares that are the whole
abbrev wholes : List Share → List Share
wholes [] = []
wholes (q ∷ qs) = full_share ∷ wholes qs

abbrev head_or : Share → List Share → Share
head_or p [] = p
head_or p (q ∷ qs) = q

abbrev tail_of : List Share → List Share
tail_of [] = []
tail_of (q ∷ qs) = qs

wholes_split : (ps qs : List Share) → ps ++ qs ≡ wholes (ps ++ qs) → (ps ≡ wholes ps) × (qs ≡ wholes qs)
wholes_split [] qs e = (refl, e)
wholes_split (p ∷ ps) qs e =
    let rest = wholes_split ps qs (ap tail_of e) in
    (ap (λ (q : Share). q ∷ ps) (ap (head_or p) e) ∙ ap (λ (l : List Share). full_share ∷ l) rest.0, rest.1)

-- the place of entry m, under the locals
abbrev deep : List (Ty × ℕ) → ℕ → ℕ
deep [] m = m
deep (e ∷ E) m = deep E (suc (suc m))

abbrev Locals : Type 0
Locals = List (Ty × ℕ)

module _ {M : Type 1} {𝓤 : Ura M} where
  -- a local, and its right to be freed
  abbrev one : Ty × ℕ → Holds → List (Item 𝓤) → List (Item 𝓤)
  one e h Γ = cell e h ∷ ‵ (fdies e.0 e.1) ∷ Γ

  abbrev pub laid : Locals → List Holds → List (Item 𝓤) → List (Item 𝓤)
  laid [] hs Γ = Γ
  laid (e ∷ E) [] Γ = laid E [] (one e empty Γ)
  laid (e ∷ E) (h ∷ hs) Γ = laid E hs (one e h Γ)

  -- the entries before a place
  abbrev pub before : ℕ → List (Item 𝓤) → List (Item 𝓤)
  before zero Γ = []
  before (suc k) [] = []
  before (suc k) (i ∷ Γ) = i ∷ before k Γ

  laid_after : (E : Locals) (hs : List Holds) (Δ Γ : List (Item 𝓤)) → laid E hs (Δ ++ Γ) ≡ laid E hs Δ ++ Γ
  laid_after [] hs Δ Γ = refl
  laid_after (e ∷ E) [] Δ Γ = laid_after E [] (one e empty Δ) Γ
  laid_after (e ∷ E) (h ∷ hs) Δ Γ = laid_after E hs (one e h Δ) Γ

  module _ (𝓛 : Logic 𝓤) where
    -- the context as one assertion
    open 𝓛 use {H}

    abbrev ∗∗ : List (Item 𝓤) → SProp 𝓤
    ∗∗ Γ = ⋆ 𝓛 Γ

    infixr 35 ◌∗◌
    abbrev ◌∗◌ : Item 𝓤 → SProp 𝓤 → SProp 𝓤
    i ∗ P = sep 𝓤 (mean 𝓛 i) P

    nth-deep : (E : Locals) (m : ℕ) (Γ : List (Item 𝓤)) → nth 𝓛 (deep E m) (laid E [] Γ) ≡ nth 𝓛 m Γ
    nth-deep [] m Γ = refl
    nth-deep (e ∷ E) m Γ = nth-deep E (suc (suc m)) (one e empty Γ)

    put-deep : (E : Locals) (m : ℕ) (i : Item 𝓤) (Γ : List (Item 𝓤)) → put 𝓛 (deep E m) i (laid E [] Γ) ≡ laid E [] (put 𝓛 m i Γ)
    put-deep [] m i Γ = refl
    put-deep (e ∷ E) m i Γ = put-deep E (suc (suc m)) i (one e empty Γ)

    del-deep : (E : Locals) (m : ℕ) (Γ : List (Item 𝓤)) → del 𝓛 (deep E m) (laid E [] Γ) ≡ laid E [] (del 𝓛 m Γ)
    del-deep [] m Γ = refl
    del-deep (e ∷ E) m Γ = del-deep E (suc (suc m)) (one e empty Γ)

    -- the entry under the locals, taken out
    out : (E : Locals) (i : Item 𝓤) (Γ : List (Item 𝓤)) → ent 𝓤 (∗∗ (laid E [] (i ∷ Γ))) (i ∗ ∗∗ (laid E [] Γ))
    out E i Γ =
        let Δ : List (Item 𝓤) = laid E [] (i ∷ Γ) in
        subst (λ (j : Item 𝓤). ent 𝓤 (∗∗ Δ) (j ∗ ∗∗ (laid E [] Γ))) (nth-deep E zero (i ∷ Γ))
        (subst (λ (Θ : List (Item 𝓤)). ent 𝓤 (∗∗ Δ) (nth 𝓛 (deep E zero) Δ ∗ ∗∗ Θ)) (del-deep E zero (i ∷ Γ))
        (pull 𝓛 (deep E zero) Δ))

    swapped : (Γ Δ : List (Item 𝓤)) → ent 𝓤 (∗∗ (Γ ++ Δ)) (∗∗ (Δ ++ Γ))
    swapped Γ Δ = via 𝓤 _ (⊢++ 𝓛 Γ Δ) (via 𝓤 _ (comm∗ 𝓤 (∗∗ Γ) (∗∗ Δ)) (++⊢ 𝓛 Δ Γ))

    -- what stands before the locals stands after them, and the other way round
    under : (E : Locals) (Γ : List (Item 𝓤)) → ent 𝓤 (∗∗ (Γ ++ laid E [] [])) (∗∗ (laid E [] Γ))
    under E Γ =
        subst (λ (Δ : List (Item 𝓤)). ent 𝓤 (∗∗ (Γ ++ laid E [] [])) (∗∗ Δ)) (sym (laid_after E [] [] Γ)) (swapped Γ (laid E [] []))

    over : (E : Locals) (hs : List Holds) (Γ : List (Item 𝓤)) → ent 𝓤 (∗∗ (laid E hs Γ)) (∗∗ (Γ ++ laid E hs []))
    over E hs Γ =
        subst (λ (Δ : List (Item 𝓤)). ent 𝓤 (∗∗ Δ) (∗∗ (Γ ++ laid E hs []))) (sym (laid_after E hs [] Γ)) (swapped (laid E hs []) Γ)

    frees-laid : (E : Locals) (Γ : List (Item 𝓤)) (P : SProp 𝓤) → ent 𝓤 (∗∗ Γ) P → ent 𝓤 (∗∗ (laid E [] Γ)) (release 𝓤 H E P)
    frees-laid [] Γ P h = h
    frees-laid (e ∷ E) Γ P h =
        let R : Item 𝓤 = cell e empty in
        let D : Item 𝓤 = ‵ (fdies e.0 e.1) in
        via 𝓤 (R ∗ ∗∗ (laid E [] (D ∷ Γ))) (out E R (D ∷ Γ))
        (via 𝓤 (R ∗ (D ∗ ∗∗ (laid E [] Γ))) (mono_r 𝓤 (mean 𝓛 R) (out E D Γ))
        (via 𝓤 ((R ⊛ D) ∗ ∗∗ (laid E [] Γ)) (assoc' 𝓤 (mean 𝓛 R) (mean 𝓛 D) (∗∗ (laid E [] Γ)))
        (mono_r 𝓤 (mean 𝓛 (R ⊛ D)) (frees-laid E Γ P h))))

    -- ---- what an entry leaves where a cell is made room: what is no cell stays
    record Cleared (i : Item 𝓤) : Type 2 where
      to : Item 𝓤
      shares : List Share
      go : shares ≡ wholes shares → ent 𝓤 (mean 𝓛 i) (mean 𝓛 to)

    module _ where
      abbrev stays : (i : Item 𝓤) → Cleared i
      stays i = record { to = i; shares = []; go = λ e. id⊢ 𝓤 (mean 𝓛 i) }

      abbrev cleared : (P : Fml) → Cleared (‵ P)
      cleared (fat q τ b o v) = record {
        to = ‵ (froom τ b o);
        shares = q ∷ [];
        go = λ e. subst (λ (p : Share). ent 𝓤 (H.at p τ b o v) (H.room τ b o)) (sym (ap (head_or q) e)) (𝓛.laws.at_room τ b o v);
      }
      cleared ftrue = stays (‵ ftrue)
      cleared ffalse = stays (‵ ffalse)
      cleared (feq X x y) = stays (‵ (feq X x y))
      cleared (flt m n) = stays (‵ (flt m n))
      cleared (fsep P Q) = stays (‵ (fsep P Q))
      cleared (fand P Q) = stays (‵ (fand P Q))
      cleared (for P Q) = stays (‵ (for P Q))
      cleared (fwand P Q) = stays (‵ (fwand P Q))
      cleared (fex X F) = stays (‵ (fex X F))
      cleared (fall X F) = stays (‵ (fall X F))
      cleared (fupd P) = stays (‵ (fupd P))
      cleared (froom τ b o) = stays (‵ (froom τ b o))
      cleared (fdies τ b) = stays (‵ (fdies τ b))
      cleared (flft κ q) = stays (‵ (flft κ q))
      cleared (fdead κ) = stays (‵ (fdead κ))
      cleared (fobs γ x) = stays (‵ (fobs γ x))
      cleared (fauth γ x) = stays (‵ (fauth γ x))
      cleared (fres γ x) = stays (‵ (fres γ x))
      cleared (fbor κ P) = stays (‵ (fbor κ P))
      cleared (fobor κ q P) = stays (‵ (fobor κ q P))
      cleared (flent κ P) = stays (‵ (flent κ P))
      cleared (fshr_bor κ F) = stays (‵ (fshr_bor κ F))
      cleared (fhide P) = stays (‵ (fhide P))
      cleared (fleft q τ τs b o) = stays (‵ (fleft q τ τs b o))
      cleared (fown R γ x) = stays (‵ (fown R γ x))
      cleared (finv P) = stays (‵ (finv P))
      cleared (fnamed n P) = stays (‵ (fnamed n P))
      cleared (ftok m) = stays (‵ (ftok m))
      cleared (fkid h a) = stays (‵ (fkid h a))
      cleared (fme h) = stays (‵ (fme h))
      cleared (fsent h) = stays (‵ (fsent h))

      abbrev clear : (i : Item 𝓤) → Cleared i
      clear (‵ P) = cleared P
      clear (raw P) = stays (raw P)
      clear (i ⊛ j) = stays (i ⊛ j)
      clear (some F) = stays (some F)
      clear (given φ i) = stays (given φ i)
      clear (later i) = stays (later i)

      -- of the entries from k on, n
      abbrev pub clear_from : (k n : ℕ) → List (Item 𝓤) → List (Item 𝓤)
      clear_from k n [] = []
      clear_from (suc k) n (i ∷ Γ) = i ∷ clear_from k n Γ
      clear_from zero zero (i ∷ Γ) = i ∷ Γ
      clear_from zero (suc n) (i ∷ Γ) = (clear i).to ∷ clear_from zero n Γ

      abbrev pub shares_from : (k n : ℕ) → List (Item 𝓤) → List Share
      shares_from k n [] = []
      shares_from (suc k) n (i ∷ Γ) = shares_from k n Γ
      shares_from zero zero (i ∷ Γ) = []
      shares_from zero (suc n) (i ∷ Γ) = (clear i).shares ++ shares_from zero n Γ

      both : (i j : Item 𝓤) (Γ Δ : List (Item 𝓤)) → ent 𝓤 (mean 𝓛 i) (mean 𝓛 j) → ent 𝓤 (∗∗ Γ) (∗∗ Δ)
          → ent 𝓤 (∗∗ (i ∷ Γ)) (∗∗ (j ∷ Δ))
      both i j Γ Δ h k = via 𝓤 _ (pop 𝓛 i Γ) (via 𝓤 _ (mono∗ 𝓤 h k) (push 𝓛 j Δ))

      clear-from⊢ : (k n : ℕ) (Γ : List (Item 𝓤)) → shares_from k n Γ ≡ wholes (shares_from k n Γ)
          → ent 𝓤 (∗∗ Γ) (∗∗ (clear_from k n Γ))
      clear-from⊢ k n [] e = id⊢ 𝓤 (∗∗ [])
      clear-from⊢ (suc k) n (i ∷ Γ) e = both i i Γ (clear_from k n Γ) (id⊢ 𝓤 (mean 𝓛 i)) (clear-from⊢ k n Γ e)
      clear-from⊢ zero zero (i ∷ Γ) e = id⊢ 𝓤 (∗∗ (i ∷ Γ))
      clear-from⊢ zero (suc n) (i ∷ Γ) e =
          let es = wholes_split (clear i).shares (shares_from zero n Γ) e in
          both i (clear i).to Γ (clear_from zero n Γ) ((clear i).go es.0) (clear-from⊢ zero n Γ es.1)

module _ {M : Type 1} {𝓤 : Ura M} {𝓛 : Logic 𝓤} {K : Type 0} {Γ : List (Item 𝓤)} where
  open 𝓛 use {H}

  module _ {G : Goal 𝓤 H} where
    pub clears : K → (k n : ℕ) → shares_from 𝓛 k n Γ ≡ wholes (shares_from 𝓛 k n Γ) → Step K 𝓛 (clear_from 𝓛 k n Γ) G Γ G
    clears t k n e = step (λ s. record { prf = via 𝓤 _ (clear-from⊢ 𝓛 k n Γ e) s.prf })

    pub leaves : K → (k : ℕ) {E : Locals} → clear_from 𝓛 k 100 Γ ≡ before k Γ ++ laid E [] []
        → shares_from 𝓛 k 100 Γ ≡ wholes (shares_from 𝓛 k 100 Γ) → Step K 𝓛 (before k Γ) G Γ (frees E G)
    leaves t k {E} e f = step (λ s. record {
      prf = via 𝓤 _
          (via 𝓤 _ (clear-from⊢ 𝓛 k 100 Γ f)
          (subst (λ (Δ : List (Item 𝓤)). ent 𝓤 (⋆ 𝓛 Δ) (⋆ 𝓛 (laid E [] (before k Γ)))) (sym e) (under 𝓛 E (before k Γ))))
          (frees-laid 𝓛 E (before k Γ) (aim 𝓤 H G) s.prf);
    })

-- ---- into a function
module _ {M : Type 1} {𝓤 : Ura M} {𝓛 : Logic 𝓤} {K : Type 0} where
  open 𝓛 use {H}

  allocs_all : K → (ls : List Local) {Kt : Locals → Goal 𝓤 H} (Δ : List (Item 𝓤))
      → ((bs : Blocks ls) → Seq K 𝓛 (laid (env_of ls bs) [] Δ) (Kt (env_of ls bs))) → Seq K 𝓛 Δ (allocs ls Kt)
  allocs_all t [] Δ k = alloc0 t $ k tt
  allocs_all t (local τ h ∷ ls) Δ k = alloc1 t (λ b. allocs_all t ls (‵ (froom τ b zero) ∷ ‵ (fdies τ b) ∷ Δ) (λ bs. k (b, bs)))

  passes_all : K → (E : Locals) (vs : List Val) {g : Goal 𝓤 H} (Δ : List (Item 𝓤)) → Fit E vs → Seq K 𝓛 (laid E (each_full vs) Δ) g
      → Seq K 𝓛 (laid E [] Δ) (passes E vs g)
  passes_all t E [] Δ f s = pass0 t $ s
  passes_all t [] (v ∷ vs) Δ f s = absurd f
  passes_all t (e ∷ E) (v ∷ vs) Δ f s =
      let R : Item 𝓤 = ‵ (froom e.0 e.1 zero) in
      let D : Item 𝓤 = ‵ (fdies e.0 e.1) in
      let F : Item 𝓤 = ‵ (fat full_share e.0 e.1 zero v) in
      pass1 t (subst (λ (Γ' : List (Item 𝓤)). Writes K 𝓛 (laid E [] (R ∷ D ∷ Δ)) e.0 e.1 zero v Γ')
      (put-deep 𝓛 E zero F (R ∷ D ∷ Δ))
      (init t (deep E zero) (nth-deep 𝓛 E zero (R ∷ D ∷ Δ)) f.0)) $ passes_all t E vs (F ∷ D ∷ Δ) f.1 s

  params_all : K → (E : Locals) (vs : List Val) {g : Goal 𝓤 H} (Γ : List (Item 𝓤)) → FitAfter E vs
      → Seq K 𝓛 (laid E (empty ∷ each_full vs) Γ) g → Seq K 𝓛 (laid E [] Γ) (params' E vs g)
  params_all t [] vs Γ f s = absurd f
  params_all t (e ∷ E) vs Γ f s = params1 t $ passes_all t E vs (one e empty Γ) f s

  pub enters_with : K → {Γ : List (Item 𝓤)} (C : Calls 𝓤 H) (Λ : Loops 𝓤 H) (f : Fn) (vs : List Val) (Kf : Val → SProp 𝓤)
      → ((bs : Blocks f.locals) → FitAfter (env_of f.locals bs) vs)
      → ((bs : Blocks f.locals) → Seq K 𝓛 (Γ ++ laid (env_of f.locals bs) (empty ∷ each_full vs) [])
      (runs C Λ (env_of f.locals bs) f.body (at_ret (env_of f.locals bs) Kf)))
      → Seq K 𝓛 Γ (prop (WpFn 𝓤 H C Λ f vs Kf))
  enters_with t {Γ} C Λ f vs Kf fit k =
      enter t C Λ f vs Kf $ allocs_all t f.locals Γ (λ bs. params_all t (env_of f.locals bs) vs Γ (fit bs)
      (record { prf = via 𝓤 _ (over 𝓛 (env_of f.locals bs) (empty ∷ each_full vs) Γ) (k bs).prf }))
