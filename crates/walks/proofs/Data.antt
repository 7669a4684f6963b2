-- What a walk asks of the types of a function's parameters and of its result.
--     Data                         a type of plain data: its machine value, which is of the MIR type, and that it owns nothing but facts
--     number, flag, octet, array   a `usize`, a `bool`, a `u8`, an array
--     struct, enum                 a declared struct, a declared enum
--     Param                        how a parameter is passed, and what is had of it at exit
--     shared, lent, given          a `&[T]`; a `&mut [T]` that is still had at exit, or that was given to a call for good
--     by_value                     plain data
--     Params                       of all parameters, with what `denote.Triple.Walked` asks of them
use types.Logic.{Logic}
use denote.Slice.{shr_slice_vals, mut_slice_vals}
use Rattle.walks.proofs.Names.{◌≡◌, List, [], ◌∷◌, ℕ, Ura, named, w8, w64, Val, vint, ftrue, RattleType, yes, Is, u8, usize}
use Rattle.walks.proofs.Names.{only, uint_Tells, uint_Makes, shr_slice_Tells, shr_slice_Lawful, Slot, plain, Stays, stay_none}
use Rattle.walks.proofs.Names.{stay_none_slice, Goes-none, Goes-none_slice}
use lib.Dec.{T as Holds}
use mir.Val.{vbool, WT, has_ty}
use contract.Lifetimes.{Lfts, lft_at}
use denote.Exit.{Kept, Last, left}
use denote.Laws.{Tells, Makes, Lawful, Lawfuls, Spells, Tellss, Ises}
use denote.Memory.{lone}
use denote.Builtin.{bool}
use denote.Array.{Array, array_vals, Array-Tells, Array-Lawful, Array-Makes}
use denote.Plain.{uint_Lawful, bool_Tells, bool_Lawful, bool_Makes}
use denote.Slice.{mut_slice_Tells, mut_slice_Lawful}
use denote.Struct.Struct.{Plains}
use denote.Struct.Declared as S
use denote.Struct.Laws as LL
use denote.Enum.Enum.{Plainss, Few}
use denote.Enum.Declared as E
use denote.Enum.Laws as EL
use denote.Signature.{AllWithin, shr_slice_of, mut_slice_of, types_at}
use denote.Triple.End.{Kepts}
use denote.Triple.Walked.{Stay, stay_slice, gave_slice, Goes, AllGo, Goes-slice, Goes-gave_slice}

pub record Data (R : RattleType) : Type 2 where
  pub val : R.Denot → Val
  pub tells : Tells R (Is R) (λ x. val x ∷ [])
  pub typed : {M : Type 1} {𝓤 : Ura M} (𝓛 : Logic 𝓤) → (x : R.Denot) → Is R x (val x ∷ [])
      → Holds (has_ty (lone R.mir) (val x)) × WT (val x)
  pub lawful : {M : Type 1} {𝓤 : Ura M} (𝓛 : Logic 𝓤) → Lawful 𝓛 R
  pub makes : {M : Type 1} {𝓤 : Ura M} (𝓛 : Logic 𝓤) → Makes 𝓛 R (Is R)

abbrev pub number : Data usize
number = record {
  val = vint w64;
  tells = uint_Tells w64;
  typed = λ 𝓛 x is. ((uint_Lawful 𝓛 w64).typed x _ is).0;
  lawful = λ 𝓛. uint_Lawful 𝓛 w64;
  makes = λ 𝓛. uint_Makes 𝓛 w64;
}

abbrev pub flag : Data bool
flag = record {
  val = vbool;
  tells = bool_Tells;
  typed = λ 𝓛 x is. ((bool_Lawful 𝓛).typed x _ is).0;
  lawful = λ 𝓛. bool_Lawful 𝓛;
  makes = λ 𝓛. bool_Makes 𝓛;
}

abbrev pub octet : Data u8
octet = record {
  val = vint w8;
  tells = uint_Tells w8;
  typed = λ 𝓛 x is. ((uint_Lawful 𝓛 w8).typed x _ is).0;
  lawful = λ 𝓛. uint_Lawful 𝓛 w8;
  makes = λ 𝓛. uint_Makes 𝓛 w8;
}

abbrev pub array : {R : RattleType} → Data R → (n : ℕ) → Data (Array R n)
array {R} d n = record {
  val = λ xs. only (array_vals (λ x. d.val x ∷ []) xs);
  tells = Array-Tells R (λ x. d.val x ∷ []) d.tells n;
  typed = λ 𝓛 x is. ((Array-Lawful 𝓛 R (d.lawful 𝓛) n).typed x _ is).0;
  lawful = λ 𝓛. Array-Lawful 𝓛 R (d.lawful 𝓛) n;
  makes = λ 𝓛. Array-Makes 𝓛 R (d.makes 𝓛) n;
}

abbrev pub struct : (T : S.Declared) → LL.Laws T → Plains (S.fields T) → Data (S.row T)
struct T L pl = record {
  val = LL.val T L;
  tells = LL.tells T L;
  typed = λ 𝓛 x is. ((LL.lawful T L 𝓛).typed x _ is).0;
  lawful = λ 𝓛. LL.lawful T L 𝓛;
  makes = λ 𝓛. LL.makes T pl 𝓛;
}

abbrev pub enum : (T : E.Declared) → EL.Laws T → Few (E.shape T) → Plainss (E.variants T) → Data (E.row T)
enum T L few pl = record {
  val = EL.val T L;
  tells = EL.tells T L;
  typed = λ 𝓛 x is. ((EL.lawful T L 𝓛 few).typed x _ is).0;
  lawful = λ 𝓛. EL.lawful T L 𝓛 few;
  makes = λ 𝓛. EL.makes T pl 𝓛;
}

-- ---- parameters
pub record Param {n : ℕ} (s : Slot n) (k : Kept) : Type 2 where
  pub stay : Stay s k
  pub goes : {M : Type 1} {𝓤 : Ura M} (𝓛 : Logic 𝓤) → Goes 𝓛 n s k stay
  pub vals : (κs : Lfts n) → (s.row κs).Denot → List Val
  pub tells : (κs : Lfts n) → Tells (s.row κs) (Is (s.row κs)) (vals κs)
  pub lawful : {M : Type 1} {𝓤 : Ura M} (𝓛 : Logic 𝓤) → (κs : Lfts n) → Lawful 𝓛 (s.row κs)

module _ {n : ℕ} where
  abbrev pub shared : (j : ℕ) (ok : AllWithin n (j ∷ [])) (T : RattleType) → Param {n = n} (shr_slice_of (j ∷ []) ok (plain (λ _. T))) yes
  shared j ok T = record {
    stay = stay_none_slice (j ∷ []) ok (plain (λ _. T)) yes;
    goes = λ 𝓛. Goes-none_slice 𝓛 n (j ∷ []) ok (plain (λ _. T)) yes;
    vals = λ κs. shr_slice_vals;
    tells = λ κs. shr_slice_Tells (named j) (lft_at n j ok κs) T;
    lawful = λ 𝓛 κs. shr_slice_Lawful 𝓛 (named j) (lft_at n j ok κs) T;
  }

  abbrev pub lent : (j : ℕ) (ok : AllWithin n (j ∷ [])) (T : RattleType) → Param {n = n} (mut_slice_of (j ∷ []) ok (plain (λ _. T))) yes
  lent j ok T = record {
    stay = stay_slice (j ∷ []) ok (plain (λ _. T));
    goes = λ 𝓛. Goes-slice 𝓛 n j ok (plain (λ _. T));
    vals = λ κs. mut_slice_vals;
    tells = λ κs. mut_slice_Tells (named j) (lft_at n j ok κs) T;
    lawful = λ 𝓛 κs. mut_slice_Lawful 𝓛 (named j) (lft_at n j ok κs) T;
  }

  abbrev pub given : (j : ℕ) (ok : AllWithin n (j ∷ [])) (T : RattleType) → Param {n = n} (mut_slice_of (j ∷ []) ok (plain (λ _. T))) yes
  given j ok T = record {
    stay = gave_slice (j ∷ []) ok (plain (λ _. T));
    goes = λ 𝓛. Goes-gave_slice 𝓛 n j ok (plain (λ _. T));
    vals = λ κs. mut_slice_vals;
    tells = λ κs. mut_slice_Tells (named j) (lft_at n j ok κs) T;
    lawful = λ 𝓛 κs. mut_slice_Lawful 𝓛 (named j) (lft_at n j ok κs) T;
  }

  -- nothing is said of plain data at exit, which a `refl` shows of each type
  abbrev pub by_value : {R : RattleType} → Data R → ((x : R.Denot) (f : Last (R.exit yes) x) → left (R.exit yes) x f ≡ ftrue)
      → Param {n = n} (plain (λ _. R)) yes
  by_value {R} d silent = record {
    stay = stay_none (λ _. R) yes;
    goes = λ 𝓛. Goes-none 𝓛 n (λ _. R) yes (λ κs. silent);
    vals = λ κs x. d.val x ∷ [];
    tells = λ κs. d.tells;
    lawful = λ 𝓛 κs. d.lawful 𝓛;
  }

  abbrev pub Params : (ss : List (Slot n)) → Kepts ss → Type 2
  Params [] ks = Unit {2}
  Params (s ∷ ss) ks = Param s ks.0 × Params ss ks.1

  abbrev pub stays : (ss : List (Slot n)) (ks : Kepts ss) → Params ss ks → Stays ss ks
  stays [] ks ps = tt
  stays (s ∷ ss) ks ps = (ps.0.stay, stays ss ks.1 ps.1)

  abbrev pub spells : (ss : List (Slot n)) (ks : Kepts ss) → Params ss ks → (κs : Lfts n) → Spells (types_at ss κs)
  spells [] ks ps κs = tt
  spells (s ∷ ss) ks ps κs = (ps.0.vals κs, spells ss ks.1 ps.1 κs)

  abbrev pub all_tell : (ss : List (Slot n)) (ks : Kepts ss) (ps : Params ss ks) (κs : Lfts n)
      → Tellss (types_at ss κs) (Ises (types_at ss κs)) (spells ss ks ps κs)
  all_tell [] ks ps κs = tt
  all_tell (s ∷ ss) ks ps κs = (ps.0.tells κs, all_tell ss ks.1 ps.1 κs)

  abbrev pub all_go : {M : Type 1} {𝓤 : Ura M} (𝓛 : Logic 𝓤) (ss : List (Slot n)) (ks : Kepts ss)
      (ps : Params ss ks) → AllGo 𝓛 n ss ks (stays ss ks ps)
  all_go 𝓛 [] ks ps = tt
  all_go 𝓛 (s ∷ ss) ks ps = (ps.0.goes 𝓛, all_go 𝓛 ss ks.1 ps.1)

  abbrev pub all_lawful : {M : Type 1} {𝓤 : Ura M} (𝓛 : Logic 𝓤) → (ss : List (Slot n)) (ks : Kepts ss)
      → Params ss ks → (κs : Lfts n) → Lawfuls 𝓛 (types_at ss κs)
  all_lawful 𝓛 [] ks ps κs = tt
  all_lawful 𝓛 (s ∷ ss) ks ps κs = (ps.0.lawful 𝓛 κs, all_lawful 𝓛 ss ks.1 ps.1 κs)
