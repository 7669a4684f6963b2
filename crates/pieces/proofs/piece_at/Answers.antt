-- `pieces::piece_at` meets its contract, element by element; an element's octets lie in the string.
use Rattle.element.proofs.Names.{arith, sym, ◌∙◌, ap, refl}
use Rattle.std.proofs.Common.{Ok}
use Rattle.state.specs.Elements.{element_seen}
use Rattle.pieces.specs.Pieces.{piece_of}
use Rattle.element.proofs.Sizes.{silent, found}
use Rattle.pieces.proofs.Step.{fits, on_past, as_piece}
use Rattle.pieces.proofs.piece_at.Goals as goal

pub returns-then-s-at : goal.returns-then-s-at
unfolding piece_of
returns-then-s-at c = search on_past

pub overflow_add-result : goal.overflow_add-result
unfolding piece_of
overflow_add-result c = let h = fits _ _ _ silent (sym c.in-Ok-Silent.ensures ∙ ap (λ x. element_seen (Ok x)) c.in-Ok-Silent.field-0-is) in omega arith

pub overflow_add-size : goal.overflow_add-size
unfolding piece_of
overflow_add-size c = let h = fits _ _ _ found (sym c.in-Ok-Found.ensures ∙ ap (λ x. element_seen (Ok x)) c.in-Ok-Found.field-0-is) in omega arith

pub overflow_add-result-in-Ok-Found : goal.overflow_add-result-in-Ok-Found
unfolding piece_of
overflow_add-result-in-Ok-Found c = let h = fits _ _ _ found (sym c.in-Ok-Found.ensures ∙ ap (λ x. element_seen (Ok x)) c.in-Ok-Found.field-0-is) in omega arith

pub returns-in-Ok-End : goal.returns-in-Ok-End
unfolding piece_of
returns-in-Ok-End c = as_piece _ _ _ _ _ _ c.in-Ok-End.ensures (ap (λ x. element_seen (Ok x)) c.in-Ok-End.field-0-is) refl

pub returns-in-Err : goal.returns-in-Err
unfolding piece_of
returns-in-Err c = as_piece _ _ _ _ _ _ c.in-Err.ensures refl refl

pub returns-in-Ok-Silent : goal.returns-in-Ok-Silent
unfolding piece_of
returns-in-Ok-Silent c = as_piece _ _ _ _ _ _ c.in-Ok-Silent.ensures (ap (λ x. element_seen (Ok x)) c.in-Ok-Silent.field-0-is) refl

pub returns-in-Ok-Found : goal.returns-in-Ok-Found
unfolding piece_of
returns-in-Ok-Found c = as_piece _ _ _ _ _ _ c.in-Ok-Found.ensures (ap (λ x. element_seen (Ok x)) c.in-Ok-Found.field-0-is) (cc)
