-- Rules for the code that a proof by hand follows: a loop's test, and the step from the walk of a function's code
-- to the statement that the function meets its contract.
--     tests      the test that starts a turn of a `while`: the turn goes on, or the loop is left
--     holds      and `fails`: the value that was tested is true, or false
--     proved     from a walk to the function's statement
use Rattle.walks.proofs.Names.{◌≡◌, refl, true, false, List, ℕ, Ura, Model, Env, Calls, Loops, WpFn, Tables, Running}
use Rattle.walks.proofs.Names.{Item, prop, runs, ◌$◌, branches, Stays, Walks, Clauses}
use mathlib.Core.Bool.{Bool, not}
use lib.Dec.{T}
use mir.Syntax.{Callee, Opd as Operand, Body, Fn, skip, seq, cond, exit}
use mir.Val.{vbool}
use prog.Routine.{Env as REnv}
use prog.Wp.{exits, Closed}
use sound.WpLaws.{WpFn-mono}
use types.Logic.{Logic}
use contract.Running.{tables, tables_of}
use types.Kit.{Post, post, Seq}
use types.Run.{Opd, first, skips, jumps}
use denote.Triple.Spec.{Meets}
use denote.Triple.Table.{entered}
use denote.Triple.Walked.{AllGo, walk_Meets}
use denote.Triple.Clauses.{Ended, closing}

module _ {M : Type 1} {𝓤 : Ura M} {𝓛 : Logic 𝓤} {K : Type 0} {Γ : List (Item 𝓤)} {E : Env 𝓤 𝓛.H}
    {C : Calls 𝓤 𝓛.H} {Λ : Loops 𝓤 𝓛.H} {q : Post 𝓤 𝓛.H} where
  open 𝓛 use {H}

  pub tests : K → {c : Operand} {n : ℕ} {b : Body} {y : Bool} → Opd K 𝓛 Γ E c (vbool y)
      → (T y → Seq K 𝓛 Γ (runs C Λ E b q)) → (T (not y) → Seq K 𝓛 Γ (prop (post 𝓤 H q (exits n))))
      → Seq K 𝓛 Γ (runs C Λ E (seq (cond c skip (exit n)) b) q)
  tests t o held failed = first t $ branches t o (λ z. skips t $ record { prf = (held z).prf }) (λ z. jumps t $ record { prf = (failed z).prf })

-- ---- what a test says of the value tested
pub holds : (y : Bool) → T y → y ≡ true
holds true h = refl
holds false h = absurd h

pub fails : (y : Bool) → T (not y) → y ≡ false
fails true h = absurd h
fails false h = refl

-- ---- from a walk to the statement: the last lines of a proof
module _ {M : Type 1} {𝓤 : Ura M} (𝓛 : Logic 𝓤) (𝓜 : Model 𝓤 𝓛.H) (𝓡 : Running 𝓤 𝓛.H 𝓜) where
  -- the tables of an environment, with their laws
  open 𝓛 use {H}

  abbrev pub 𝓣of : REnv → Tables 𝓤 H
  𝓣of env = tables_of 𝓤 H 𝓜 (tables 𝓤 H 𝓜 𝓡 env)

  module _ (env : REnv) (key : Callee) where
    -- the routine of a name is the function, and meets clauses
    abbrev pub Defined : Fn → Type 2
    Defined f = Closed 𝓤 H (tables 𝓤 H 𝓜 𝓡 env).C (tables 𝓤 H 𝓜 𝓡 env).Λ key f

    abbrev pub Met : (D : Ended) → Clauses 𝓤 D → Type 1
    Met D c = Meets 𝓛 D.signature ((tables 𝓤 H 𝓜 𝓡 env).C key) (closing 𝓛 D c)

    pub proved : (f : Fn) → Defined f → (D : Ended) (hs : Stays D.signature.params D.kept) (c : Clauses 𝓤 D)
        → AllGo 𝓛 D.signature.lifetimes D.signature.params D.kept hs
        → Walks 𝓛 D hs (WpFn 𝓤 H (𝓣of env).C (𝓣of env).Λ f) c → Met D c
    unfolding tables_of
    proved f closed D hs c goes w =
        entered 𝓤 H _ (tables 𝓤 H 𝓜 𝓡 env).C (tables 𝓤 H 𝓜 𝓡 env).Λ key f closed
        (walk_Meets 𝓛 D hs goes c _ (WpFn-mono 𝓤 H 𝓛.laws (𝓣of env) f) w)
