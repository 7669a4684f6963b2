-- Into a function that is walked by hand, and from its walk to the statement that it meets its contract.
--     at_entry   what is owned at the entry: a token for each lifetime, then what each parameter owns
--     Start      what the function is given; `bound` binds it in the contract
--     End        what the contract asks at a return
--     Walk       what is to be shown of the function's code: it runs from there, with the locals after it, to the end that the contract asks
--     walk_in    the function meets its contract, from that; `walk_with` where the contract asks something, φ
--     cites      the entry of a function called meets the contract that the function meets
--     Passes     and `pass_in`: the same of a function that passes its parameters on to one call, whole
use Rattle.walks.proofs.Names.{◌≡◌, List, [], ◌∷◌, ℕ, suc, Ura, Val, SProp, ent, sep, emp, via, id⊢, flft, Model, Routine, WpFn}
use Rattle.walks.proofs.Names.{sem, fact, fact_i, Running, Item, ‵, ⋆, runs, at_ret, Sq, !, raw, RattleType, owns}
use Rattle.walks.proofs.Names.{on_entry, triple_of, Contract, Triple, cited, Clauses, walk_of, walked}
use mathlib.Core.List.{◌++◌}
use Prim.Native.Nat.{zero}
use mir.Syntax.{Callee, Fn}
use base.Logic.{mono∗, mono_r, wand, comm∗, mono_l, wand_i, apply∗}
use prog.Routine.{Env as REnv}
use types.Logic.{Logic, sem}
use contract.Monad.{top}
use contract.Lifetimes.{Lfts, Shares, AllOutlive, toks}
use contract.Running.{tables, tables_of}
use types.Kit.{push, ++⊢}
use denote.RattleType.{Denots, mirs, Valss, flat}
use denote.Laws.{Are, Ises, valss, Typed, all_Typed}
use denote.Signature.{types_at}
use denote.Triple.Entry.{Args, Vals}
use denote.Triple.Table.{entered}
use denote.Triple.Clauses.{Ended, closing}
use denote.Triple.Walked.{needs}
use Rattle.walks.proofs.Data.{Params, stays, spells, all_tell, all_go, all_lawful}
use Rattle.walks.proofs.Frame.{Blocks, env_of, FitAfter, empty, each_full, laid, enters_with}
use Rattle.walks.proofs.Body.{𝓣of, Defined, Met, proved}
use denote.Steps.{said}

module _ {M : Type 1} {𝓤 : Ura M} where
  abbrev tokens : (n : ℕ) → Lfts n → Shares n → List (Item 𝓤)
  tokens zero κs qs = []
  tokens (suc n) κs qs = ‵ (flft κs.0 qs.0) ∷ tokens n κs.1 qs.1

  abbrev owned : (Rs : List RattleType) → Denots Rs → Valss Rs → List (Item 𝓤)
  owned [] a vss = []
  owned (R ∷ Rs) a vss = ‵ (R.own_val a.0 vss.0) ∷ owned Rs a.1 vss.1

  abbrev at_entry : (n : ℕ) → Lfts n → Shares n → (Rs : List RattleType) → Denots Rs → Valss Rs → List (Item 𝓤)
  at_entry n κs qs Rs a vss = tokens n κs qs ++ owned Rs a vss

  module _ (𝓛 : Logic 𝓤) where
    open 𝓛 use {A}

    tokens⊢ : (n : ℕ) (κs : Lfts n) (qs : Shares n) → ent 𝓤 (toks 𝓛 n κs qs) (⋆ 𝓛 (tokens n κs qs))
    tokens⊢ zero κs qs = id⊢ 𝓤 (emp 𝓤)
    tokens⊢ (suc n) κs qs =
        via 𝓤 _ (mono_r 𝓤 (A.lft κs.0 qs.0) (tokens⊢ n κs.1 qs.1))
        (push 𝓛 (‵ (flft κs.0 qs.0)) (tokens n κs.1 qs.1))

    owned⊢ : (Rs : List RattleType) (a : Denots Rs) (vss : Valss Rs) → ent 𝓤 (sem 𝓛 (owns Rs a vss)) (⋆ 𝓛 (owned Rs a vss))
    owned⊢ [] a vss = id⊢ 𝓤 (emp 𝓤)
    owned⊢ (R ∷ Rs) a vss =
        via 𝓤 _ (mono_r 𝓤 (sem 𝓛 (R.own_val a.0 vss.0)) (owned⊢ Rs a.1 vss.1))
        (push 𝓛 (‵ (R.own_val a.0 vss.0)) (owned Rs a.1 vss.1))

    entry⊢ : (n : ℕ) (κs : Lfts n) (qs : Shares n) (Rs : List RattleType) (a : Denots Rs) (vss : Valss Rs)
        → ent 𝓤 (sep 𝓤 (toks 𝓛 n κs qs) (sem 𝓛 (owns Rs a vss))) (⋆ 𝓛 (at_entry n κs qs Rs a vss))
    entry⊢ n κs qs Rs a vss = via 𝓤 _ (mono∗ 𝓤 (tokens⊢ n κs qs) (owned⊢ Rs a vss)) (++⊢ 𝓛 (tokens n κs qs) (owned Rs a vss))

-- what a function that is walked is given: lifetimes and shares of their tokens, arguments and a ghost value, and that the machine values that it
-- is passed are theirs
module _ {M : Type 1} (𝓤 : Ura M) (D : Ended) (ps : Params D.signature.params D.kept) (c : Clauses 𝓤 D) where
  module _ (κs : Lfts D.signature.lifetimes) where
    abbrev pub types_of : List RattleType
    types_of = types_at D.signature.params κs

    abbrev pub vals_of : Args D.signature κs → Valss types_of
    vals_of a = valss types_of (spells D.signature.params D.kept ps κs) a

  pub record Start : Type 0 where
    pub κs : Lfts D.signature.lifetimes
    pub qs : Shares D.signature.lifetimes
    pub bounds : AllOutlive D.signature.lifetimes D.signature.outlives κs
    pub a : Args D.signature κs
    pub g : (c κs a).ghost
    pub are : Are (types_of κs) (Ises (types_of κs)) a (vals_of κs a)

  -- the values, in a row
  abbrev pub passed : Start → List Val
  passed z = flat (types_of z.κs) (vals_of z.κs z.a)

  -- they fit the locals that they are stored to, which antt computes of each function
  abbrev pub Fitting : Fn → Type 0
  Fitting f = (z : Start) (bs : Blocks f.locals) → Typed (mirs (types_of z.κs)) (passed z) → FitAfter (env_of f.locals bs) (passed z)

  pub fit : (𝓛 : Logic 𝓤) → (z : Start) → Typed (mirs (types_of z.κs)) (passed z)
  fit 𝓛 z =
      all_Typed 𝓛 (types_of z.κs) (all_lawful 𝓛 D.signature.params D.kept ps z.κs) z.a (vals_of z.κs z.a) z.are

-- what a call binds, and what the contract asks at a return
module _ {M : Type 1} {𝓤 : Ura M} (𝓛 : Logic 𝓤) (D : Ended) (ps : Params D.signature.params D.kept) (c : Clauses 𝓤 D) where
  abbrev pub Bound : Type 0
  Bound = (walk_of 𝓛 D (stays D.signature.params D.kept ps) c).Ghost

  abbrev pub bound : Start 𝓤 D ps c → Bound
  bound z = ((z.κs, z.qs, z.bounds, z.a, vals_of 𝓤 D ps c z.κs z.a), z.g)

  abbrev pub End : Bound → Val → SProp 𝓤
  End y = (walk_of 𝓛 D (stays D.signature.params D.kept ps) c).post y

module _ {M : Type 1} {𝓤 : Ura M} (𝓛 : Logic 𝓤) (𝓜 : Model 𝓤 𝓛.H) (𝓡 : Running 𝓤 𝓛.H 𝓜) (env : REnv) where
  open 𝓛 use {H}

  pub cites : {k : Callee} {r : Routine} {c : Contract 𝓤} → env k ≡ r → Triple 𝓤 (𝓡.run r) c
      → Triple 𝓤 ((𝓣of 𝓛 𝓜 𝓡 env).C k) c
  unfolding tables_of
  cites {k} {r} {c} e t = cited 𝓤 H c 𝓜 𝓡 env k r e t

  module _ (f : Fn) (D : Ended) (ps : Params D.signature.params D.kept) (c : Clauses 𝓤 D) where
    abbrev pub Walk : Bound 𝓛 D ps c → Type 1
    Walk y = (bs : Blocks f.locals) → Sq 𝓛
        (at_entry D.signature.lifetimes y.0.0 y.0.1 (types_at D.signature.params y.0.0) y.0.3 y.0.4
        ++ laid (env_of f.locals bs) (empty ∷ each_full (flat (types_at D.signature.params y.0.0) y.0.4)) [])
        (runs (𝓣of 𝓛 𝓜 𝓡 env).C (𝓣of 𝓛 𝓜 𝓡 env).Λ (env_of f.locals bs) f.body
        (at_ret (env_of f.locals bs) (End 𝓛 D ps c y)))

    module _ (key : Callee) (closed : Defined 𝓛 𝓜 𝓡 env key f) (fits : Fitting 𝓤 D ps c f) where
      pub walk_with : (φ : Start 𝓤 D ps c → Type 0) → ((z : Start 𝓤 D ps c) → ent 𝓤 ((c z.κs z.a).requires z.g) (fact 𝓤 (φ z)))
          → ((z : Start 𝓤 D ps c) → φ z → Walk (bound 𝓛 D ps c z)) → Met 𝓛 𝓜 𝓡 env key D c
      walk_with φ asks walk =
          let A = 𝓛.A in
          let T = 𝓣of 𝓛 𝓜 𝓡 env in
          let hs = stays D.signature.params D.kept ps in
          proved 𝓛 𝓜 𝓡 env key f closed D hs c (all_go 𝓛 D.signature.params D.kept ps)
          (walked 𝓛 D hs c (WpFn 𝓤 H T.C T.Λ f) (spells D.signature.params D.kept ps)
          (all_tell D.signature.params D.kept ps) (λ κs qs bounds a g are.
          let z : Start 𝓤 D ps c = record { κs = κs; qs = qs; bounds = bounds; a = a; g = g; are = are } in
          let vss = vals_of 𝓤 D ps c κs a in
          let Rs : List RattleType = types_at D.signature.params κs in
          let P : SProp 𝓤 = on_entry 𝓛 D.signature κs qs a vss in
          via 𝓤 _ (mono_r 𝓤 P (asks z)) (needs 𝓤 (φ z) P (λ pre.
          via 𝓤 _ (entry⊢ 𝓛 D.signature.lifetimes κs qs Rs a vss)
          (enters_with {𝓛 = 𝓛} ! {Γ = at_entry D.signature.lifetimes κs qs Rs a vss} T.C T.Λ f (flat Rs vss) _
          (λ bs. fits z bs (fit 𝓤 D ps c 𝓛 z)) (walk z pre)).prf))))

      pub walk_in : ((z : Start 𝓤 D ps c) → Walk (bound 𝓛 D ps c z)) → Met 𝓛 𝓜 𝓡 env key D c
      walk_in walk = walk_with (λ z. Unit {0}) (λ z. via 𝓤 _ (top 𝓤 _) (fact_i 𝓤 (Unit {0}) (emp 𝓤) tt)) (λ z _. walk z)

-- ---- a function that passes its parameters on to one call, whole, and returns what that answers: it meets the contract that the function
-- called meets. Such a proof opens nothing: what the contract asks is handed to the call, and what it gives is the function's own
module _ {M : Type 1} {𝓤 : Ura M} (𝓛 : Logic 𝓤) (𝓜 : Model 𝓤 𝓛.H) (𝓡 : Running 𝓤 𝓛.H 𝓜) (env : REnv) (f : Fn)
    (D : Ended) (ps : Params D.signature.params D.kept) (c : Clauses 𝓤 D) where
  open 𝓛 use {H}

  abbrev pub Whole : Contract 𝓤
  Whole = triple_of 𝓛 D.signature (closing 𝓛 D c)

  -- what is to be shown of the function's code
  abbrev pub Passes : Start 𝓤 D ps c → Type 1
  Passes z = (bs : Blocks f.locals) → Sq 𝓛
      (raw (Whole.pre (bound 𝓛 D ps c z)) ∷ laid (env_of f.locals bs) (empty ∷ each_full (passed 𝓤 D ps c z)) [])
      (runs (𝓣of 𝓛 𝓜 𝓡 env).C (𝓣of 𝓛 𝓜 𝓡 env).Λ (env_of f.locals bs) f.body
      (at_ret (env_of f.locals bs) (Whole.post (bound 𝓛 D ps c z))))

  pub pass_in : (key : Callee) → Defined 𝓛 𝓜 𝓡 env key f → Fitting 𝓤 D ps c f → ((z : Start 𝓤 D ps c) → Passes z)
      → Met 𝓛 𝓜 𝓡 env key D c
  unfolding tables_of
  pass_in key closed fits k =
      let T = 𝓣of 𝓛 𝓜 𝓡 env in
      let sp = spells D.signature.params D.kept ps in
      entered 𝓤 H Whole (tables 𝓤 H 𝓜 𝓡 env).C (tables 𝓤 H 𝓜 𝓡 env).Λ key f closed (λ y.
      let P : SProp 𝓤 = (c y.0.0 y.0.3).requires y.1 in
      let Q : Vals D.signature y.0.0 → SProp 𝓤 = λ us. WpFn 𝓤 H T.C T.Λ f (flat (types_at D.signature.params y.0.0) us)
      (Whole.post ((y.0.0, y.0.1, y.0.2, y.0.3, us), y.1)) in
      via 𝓤 _ (via 𝓤 _
      (mono_l 𝓤 P (said 𝓛 D.signature y.0.0 y.0.1 (sp y.0.0) (all_tell D.signature.params D.kept ps y.0.0) y.0.3
      (λ us. wand 𝓤 P (Q us)) y.0.4 (λ are.
      let z : Start 𝓤 D ps c = record { κs = y.0.0; qs = y.0.1; bounds = y.0.2; a = y.0.3; g = y.1; are = are } in
      wand_i 𝓤 _ P _ (enters_with {𝓛 = 𝓛} ! {Γ = raw (Whole.pre (bound 𝓛 D ps c z)) ∷ []} T.C T.Λ f
      (passed 𝓤 D ps c z) _
      (λ bs. fits z bs (fit 𝓤 D ps c 𝓛 z)) (k z)).prf)))
      (comm∗ 𝓤 (wand 𝓤 P (Q y.0.4)) P))
      (apply∗ 𝓤 P (Q y.0.4)))
