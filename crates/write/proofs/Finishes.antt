-- The answer by the length of the list and by how far it is checked.
use Rattle.element.proofs.Names.{ℕ, ◌≤◌, ◌<◌, ◌≡◌, List, length, lt-ltb, le-ltb, refused_at, pick, Directions}
use Rattle.base.specs.Limit as limit
use Rattle.base.specs.Refusal as refusal
use Rattle.std.specs.Prelude.{Ok, Err}
use Rattle.check_list.specs.Turn.{Progress}
use Rattle.base.specs.declared.Answer.{Answer}
use Rattle.emit.specs.Emit.{rows_answer, rows_output}
use Rattle.write.specs.Stowed.{finish_answer, finish_output}

module _ (p : Progress) (n : ℕ) (o w out : List ℕ) where
  pub finish_long : limit.units < n → (refused_at refusal.too_long 0 ≡ finish_answer p n o w (length out)) × (out ≡ finish_output p n o w out)
  unfolding finish_answer finish_output pick
  finish_long h = let l = lt-ltb limit.units n h in (rw l, rw l)

  pub finish_fine : (d : Directions) → n ≤ limit.units → p ≡ Ok d
      → (rows_answer o w n (length out) ≡ finish_answer p n o w (length out)) × (rows_output o w n out ≡ finish_output p n o w out)
  unfolding finish_answer finish_output pick
  finish_fine d h e = let l = le-ltb limit.units n h in (rw (l, e), rw (l, e))

  pub finish_faulty : (f : Answer) → n ≤ limit.units → p ≡ Err f → (refused_at f.number f.place ≡ finish_answer p n o w (length out)) ×
      (out ≡ finish_output p n o w out)
  unfolding finish_answer finish_output pick
  finish_faulty f h e = let l = le-ltb limit.units n h in (rw (l, e), rw (l, e))
