-- The direction rule lets pass what is neither a mark nor a segment: one such unit where no mark was read, after which none is read (`plain_goes`), and so a
-- list of such units (`lawful`).
use Rattle.element.proofs.Names.{ℕ, ◌≡◌, refl, sym, ap, Bool, true, false, cond, List, [], ◌∷◌, inl, pick, off, directions, written_of, step_of}
use Rattle.element.proofs.Names.{Directions, Goes}
use Rattle.grammar.specs.Grammar.{Lawful}
use Rattle.grammar.specs.Reading.{direct}
use Rattle.grammar.specs.Units.{TextUnit, char, space, control, tab, newline, ltr, rtl, revert, ext, counts}
use Rattle.x11r5.specs.Theorems.{Supported}
use Rattle.x11r5.specs.Writing.{unsupported_unit}

-- the directions after such a unit: text was read, if it counts as text
pub plain_goes : (u : TextUnit) (d : Directions) → unsupported_unit u ≡ false → d.marked ≡ false
    → direct d u ≡ Goes (directions d.depth d.levels false (cond (counts u) true d.texted))
unfolding step_of written_of pick
plain_goes (char c k) d n m = rw m
plain_goes space d n m = rw m
plain_goes (control tab) d n m = ap (λ (b : Bool). Goes (directions d.depth d.levels b d.texted)) m
plain_goes (control newline) d n m = ap (λ (b : Bool). Goes (directions d.depth d.levels b d.texted)) m
plain_goes (control ltr) d n m = off (sym n)
plain_goes (control rtl) d n m = off (sym n)
plain_goes (control revert) d n m = off (sym n)
plain_goes (ext e xs) d n m = off (sym n)

pub lawful : (us : List TextUnit) (t : ℕ) → Supported us → Lawful us 0 0 t
unfolding Lawful
lawful [] t h = tt
lawful (char c k ∷ us) t h = (record { text = λ _. inl refl; begin = off; revert = off }, lawful us _ h.1)
lawful (space ∷ us) t h = (record { text = λ _. inl refl; begin = off; revert = off }, lawful us _ h.1)
lawful (control tab ∷ us) t h = (record { text = λ _. inl refl; begin = off; revert = off }, lawful us _ h.1)
lawful (control newline ∷ us) t h = (record { text = λ _. inl refl; begin = off; revert = off }, lawful us _ h.1)
lawful (control ltr ∷ us) t h = off (sym h.0)
lawful (control rtl ∷ us) t h = off (sym h.0)
lawful (control revert ∷ us) t h = off (sym h.0)
lawful (ext e xs ∷ us) t h = off (sym h.0)
