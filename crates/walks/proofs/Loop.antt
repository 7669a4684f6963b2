-- A loop walked by hand, with code after it. What is owned at a turn is `At g`, where g says what is known there, and μ g falls from turn to turn.
--     Turns     what is to be shown of a turn: it goes round to `At h`, with μ h below μ g, or on to the code after the loop, or it returns
--     rounds    a turn goes round
--     loop_by   the loop and the code after it, from the turns
use Rattle.walks.proofs.Names.{ℕ, ◌<◌, List, Ura, Val, SProp, Env, Tables, Item, prop, runs, at_ret, Sq, ◌$◌, ! }
use mathlib.Core.WellFounded.InvImage
use lib.WfN.{lt-wf_rel}
use mir.Syntax.{Body, seq, block, loop}
use prog.Wp.{after_seq, after_block, after_turn, Wp, at_return}
use types.Logic.{Logic}
use types.Kit.{any_q, Seq}
use types.Run.{first, blocks, Below, again, loops}

module _ {M : Type 1} {𝓤 : Ura M} where
  pub rounds : {𝓛 : Logic 𝓤} {K : Type 0} → K → {G : Type 0} (μ : G → ℕ) (At : G → List (Item 𝓤)) (g h : G) → μ h < μ g
      → Seq K 𝓛 (At h) (prop (Below 𝓛 (λ h g. μ h < μ g) At g))
  rounds t μ At g h less = again t (λ h g. μ h < μ g) At g h less

  module _ (𝓛 : Logic 𝓤) (𝓣 : Tables 𝓤 𝓛.H) (E : Env 𝓤 𝓛.H) (Post : Val → SProp 𝓤) (turn rest : Body) {G : Type 0} (μ : G → ℕ)
      (At : G → List (Item 𝓤)) where
    open 𝓛 use {H}

    abbrev pub Turns : G → Type 1
    Turns g =
        Sq 𝓛 (At g) (runs 𝓣.C 𝓣.Λ E turn (any_q (after_turn 𝓤 H (Below 𝓛 (λ h g. μ h < μ g) At g)
        (after_block 𝓤 H (after_seq 𝓤 H (Wp 𝓤 H 𝓣.C 𝓣.Λ E rest (at_return 𝓤 H E Post)) (at_return 𝓤 H E Post))))))

    pub loop_by : ((g : G) → Turns g) → (g : G) → Sq 𝓛 (At g) (runs 𝓣.C 𝓣.Λ E (seq (block (loop turn)) rest) (at_ret E Post))
    loop_by turns g = first ! $ blocks ! $ loops ! 𝓣 (λ h g. μ h < μ g) (InvImage.wf μ lt-wf_rel.wf) At turns g
