-- For every string, and every list that is lent, the archive reader answers what the first reader answers, and leaves the list as it does (promise
-- Q5b). The contracts of the two functions are one, text for text (`one_check`, `one_read`); so whatever each of them gives, by its contract, is
-- what the other gives (`same_check`, `same_read`).
use Rattle.walks.proofs.Names as kit
use Rattle.element.proofs.Names.{ℕ, ◌≡◌, refl, sym, ◌∙◌, List, length, Answer, UnitRecord}
use Rattle.grammar.specs.Reading.{check_of}
use Rattle.read.specs.Listing.{read_answer, list_after}
use Rattle.check_string.specs.contracts.answer as first-check
use Rattle.read.specs.contracts.read as first_read
use Rattle.archive.specs.contracts.check as archive-check
use Rattle.archive.specs.contracts.read as archive-read
use types.Logic.{Logic}

module _ {M : Type 1} {𝓤 : kit.Ura M} (𝓛 : Logic 𝓤) (𝓜 : kit.Model 𝓤 𝓛.H) (𝓡 : kit.Running 𝓤 𝓛.H 𝓜) where
  pub one_check : archive-check.spec 𝓛 𝓜.mem 𝓡.run ≡ first-check.spec 𝓛 𝓜.mem 𝓡.run
  one_check = refl

  pub one_read : archive-read.spec 𝓛 𝓜.mem 𝓡.run ≡ first_read.spec 𝓛 𝓜.mem 𝓡.run
  one_read = refl

-- the answers of `check_string::answer` and of `archive::check`
pub same_check : (s : List ℕ) (first archive : Answer) → first ≡ check_of s → archive ≡ check_of s → archive ≡ first
same_check s first archive e f = f ∙ sym e

-- the answers of `read::read` and of `archive::read`, and the lists after them
pub same_read : (s : List ℕ) (units : List UnitRecord) (first archive : Answer) (after_first after-archive : List UnitRecord)
    → (first ≡ read_answer s (length units)) × (after_first ≡ list_after s units)
    → (archive ≡ read_answer s (length units)) × (after-archive ≡ list_after s units)
    → (archive ≡ first) × (after-archive ≡ after_first)
same_read s units first archive after_first after-archive e f = (f.0 ∙ sym e.0, f.1 ∙ sym e.1)
