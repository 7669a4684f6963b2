-- Which fields a kind uses; all others are ignored (rule W1).
use Rattle.std.specs.Prelude.{◌≡◌, List, [], ◌∷◌, ◌⊎◌}
use Rattle.base.specs.Kind as kind
use Rattle.base.specs.declared.Unit.{Unit as UnitRecord}

-- two records are alike in what their kind uses: the set of a character, the code of a character or a segment, start and length of a
-- segment. Direction and depth are left out, for no kind uses them (rule U10)
pub record Alike (r q : UnitRecord) : Type 0 where
  pub kinds : r.kind ≡ q.kind
  pub sets : r.kind ≡ kind.character → r.set ≡ q.set
  pub codes : (r.kind ≡ kind.character) ⊎ (r.kind ≡ kind.segment) → r.code ≡ q.code
  pub starts : r.kind ≡ kind.segment → r.start ≡ q.start
  pub lengths : r.kind ≡ kind.segment → r.length ≡ q.length

-- two lists, record by record
pub data AllAlike : List UnitRecord → List UnitRecord → Type 0 where
  none : AllAlike [] []
  more : {r q : UnitRecord} {rs qs : List UnitRecord} → Alike r q → AllAlike rs qs → AllAlike (r ∷ rs) (q ∷ qs)

-- two records that differ in direction and depth alone (rules U10, W1)
pub record Redirected (r q : UnitRecord) : Type 0 where
  pub kinds : r.kind ≡ q.kind
  pub sets : r.set ≡ q.set
  pub codes : r.code ≡ q.code
  pub starts : r.start ≡ q.start
  pub lengths : r.length ≡ q.length

-- two lists, record by record
pub data AllRedirected : List UnitRecord → List UnitRecord → Type 0 where
  none_redirected : AllRedirected [] []
  one_redirected : {r q : UnitRecord} {rs qs : List UnitRecord} → Redirected r q → AllRedirected rs qs → AllRedirected (r ∷ rs) (q ∷ qs)
