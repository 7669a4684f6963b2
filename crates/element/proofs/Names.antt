-- The names that proofs of this crate and of those above it use, passed on from where they are declared, so that such a proof needs few lines for them.
pub use Prim.Native.Nat.{◌%◌, ◌*◌, ◌+◌, ◌-◌, ◌/◌, ◌<◌, ◌^◌, ◌≤◌, min, suc, zero, zero-le, ℕ}
pub use borrow.Author.Tests.{eq-eqb, eqb-false, eqb-true, le-leb, le-ltb, leb-false, leb-true, lt-leb, lt-ltb, ltb-false, ltb-true, ne_eqb}
pub use lib.Dec.{eqb, leb, lit<, ltb, ltb→lt, nltb→le}
pub use lib.ListN.{get_or-eq_default as List·getD-eq-default, drop, get_or, length, length-append, length-drop, length-set, length-take, set, take}
pub use lib.Seq.{length-take-le, sets, take-append_seam}
pub use mathlib.Core.Bool.{Bool, ◌&&◌, ◌||◌, cond, false, false≢true, not, or-true, true, true≢false}
pub use mathlib.Core.List.{List, [], ◌++◌, ◌∷◌}
pub use mathlib.Core.Logic.{◌↔◌, ◌⊎◌, inl, inr, ⊎_elim}
pub use mathlib.Core.Option.{Option, some-injective as Option·some-injective, none, some}
pub use mathlib.Core.Path.{◌∙◌, ◌≡◌, ap, ap₂, refl, subst, sym}
pub use native.Mathlib.Nat.{not-suc-le-zero}
pub use native.Mathlib.Numerals.{add-one}
pub use native.Mathlib.Omega.{arith}
unfoldable pub use prog.Wp.{after_turn}
pub use Rattle.base.proofs.Bools.{and_left, and_right, clash, cond_by, from-tests, off, pick_by, pick_last, test, tested, up_to_lem}
pub use Rattle.base.proofs.Ladder.{from_end, from_length, from_octet, ladder, on_eq, on_false, on_ge, on_gt, on_lt, on_ne, on_true}
pub use Rattle.base.specs.Answers.{answer, refused_at}
unfoldable pub use Rattle.base.specs.Choice.{from, pick}
pub use Rattle.base.specs.declared.Answer.{Answer}
pub use Rattle.base.specs.declared.Unit.{Unit as UnitRecord}
pub use Rattle.charset.specs.Charsets.{first_double, form_94x94, form_96, no_set, row_of}
unfoldable pub use Rattle.charset.specs.Charsets.{allowed, form_of, may_use, set_of}
pub use Rattle.charset.specs.declared.Side.{Side}
pub use Rattle.charset.specs.declared.Side.TheVariants.{GL, GR}
pub use Rattle.state.specs.Directions.{directions, undirected}
unfoldable pub use Rattle.state.specs.Directions.{begun_of, deeper_of, reverted_of, step_of, written_of}
pub use Rattle.state.specs.Elements.{part}
unfoldable pub use Rattle.state.specs.Elements.{next}
pub use Rattle.state.specs.State.{Standing, designated_of, fresh, get, on}
unfoldable pub use Rattle.state.specs.State.{put}
pub use Rattle.state.specs.declared.Sets.{Sets}
pub use Rattle.state.specs.declared.State.{State}
pub use Rattle.state.specs.declared.directions.Directions.{Directions}
pub use Rattle.state.specs.Directions.{Step}
pub use Rattle.state.specs.Directions.{Goes, Stops}
pub use Rattle.state.specs.Elements.{Element}
pub use Rattle.state.specs.Elements.{End, Found, Refused, Silent}
pub use Rattle.state.specs.declared.elements.Part.{Part}
pub use Rattle.state.specs.Elements.{Shape}
pub use Rattle.state.specs.Elements.{Designates, Gives, Refuses}
