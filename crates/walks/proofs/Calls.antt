-- Rules for a call in a proof by hand, of a function that meets its contract.
--     Call                    a call: the function's clauses and what is bound; of it: what it is passed, its result, its tokens, the last values
--     gave_some, gave-value   what the call leaves, where its contract gives the result whole: with something said of the last values of
--                             what it was lent for good, or with those values
--     gave_one                the same, where its `ensures` is a fact of the result and of one of the last values
--     calls_ends              a call whose contract gives its result whole, as a value x, and says something of some last values of what it was
--                             lent for good: what lands is the machine value of x
--     calls_whole             a call that is passed all that the function was: of the machine value that comes back it is known that it is of
--                             the result's type
--     Open                    what the holder of a `&mut` slice has while that is lent to a call, for a lifetime that ends with the call: the
--                             loan, and its own borrow, open, with its ghost name at the old list; `into-loan`, `out-of-loan`
-- In the rules that follow, what the walk has of its own `&` parameters stands in the context as one entry, T ⊛ P: their tokens T, and what they
-- own, P, which can be had twice. So a call leaves the context as it was.
--     Parts, PartsBut         each part of a formula X ∗ (Y ∗ .. ∗ true), as what the arguments own is, had from P; but one of them from Q
--     plain                   a part that is plain data, and so had from anything
--     both-twice              what two such own, in one entry
--     Spares                  the tokens that a call asks, out of those there are, and back
--     gets                    a call whose parameters are plain data and `&`s, and whose result owns something, as a part of a slice does
--     calls                   the same, with a result that is plain data
--     Loan, lends             a call that is lent a `&mut [T]` beside these: what it leaves is some list with φ
--     ends                    a return, of a function that was itself lent a `&mut [T]` beside these
use types.Logic.{Logic, sem}
use denote.Slice.{mut_slice_at}
use denote.Ref.{MutBor}
use Rattle.walks.proofs.Names.{◌≡◌, refl, ap, subst, sym, ◌∙◌, List, [], ◌∷◌, Ura, named, Val, SProp, ent, sep, ex, guard, id⊢, emp, via}
use Rattle.walks.proofs.Names.{fst∗, snd∗, Fml, ftrue, Lft, GName, Share, fsep, flft, fobs, fauth, flent, fobor, Env, Calls, Loops, Tables}
use Rattle.walks.proofs.Names.{sem, FmC, fm_of, fact, Item, ‵, raw, ◌⊛◌, given, some, later, prop, runs, Sq, ◌$◌, ◌∵◌, !, qed}
use Rattle.walks.proofs.Names.{move, let_go, use1, split, learn, pick, check, rewrite, await, show, done, use3, fsplit, fjoin, frame, ⋆, by, use2}
use Rattle.walks.proofs.Names.{join, suffices, RattleType, owns, Is, shows, only, peeks, heard, nothing, Contract, Triple, triple_of, Clauses, Lasts}
use Rattle.walks.proofs.Names.{lasts, ℕ, length, full_share, cells, Arr, pure_i, mem, slice_val, MutSlice, heres, Room, finally}
use Rattle.walks.proofs.Names.{coded_holeys, Held, lends_slice, slice_back, row, opens_slice, closes_slice, lft_new, lft_end, Stays, walk_of, ends_at}
use mir.Syntax.{Callee, Place, Opd as Operand, Body, seq, call, Lifetime}
use mir.Val.{WT, has_ty}
use base.Logic.{comm∗, assoc∗, assoc', mono∗, mono_l, mono_r, emp∗, ex_i}
use base.Fml.{fdead}
use contract.Monad.{top}
use types.Kit.{Post, lands, Seq, regoal, updating, mean, nth, del, push, pop, unpull, aim, use0, now as at_once}
use types.Run.{Opds}
use denote.Laws.{Tells, Typed, Lawful}
use denote.Signature.{type_at, types_at, Signature}
use denote.Steps.{facts}
use denote.Triple.Bound.{Bound}
use denote.Triple.Entry.{Res, alive}
use denote.Triple.Spec.{Back, Spec}
use denote.Triple.Call.{calls_at}
use denote.Triple.Clauses.{Ended, AtExit, at_exit, ensured, closing}
use denote.Shadow.{pure_l}
use denote.Memory.{lone}
use denote.Index.{whole_out, whole_in}
use lib.Dec.{T as Holds}
use denote.Triple.Walked.{Fit, has_of}
use Rattle.walks.proofs.Data.{Data, Params, stays}
use Rattle.walks.proofs.Steps.{joins}

module _ {M : Type 1} {𝓤 : Ura M} (𝓛 : Logic 𝓤) where
  -- what can be had twice
  abbrev pub Twice : Item 𝓤 → Type 1
  Twice P = ent 𝓤 (mean 𝓛 P) (mean 𝓛 (P ⊛ P))

  -- of two such, both
  pub both_twice : (P Q : Item 𝓤) → Twice P → Twice Q → Twice (P ⊛ Q)
  both_twice P Q p q =
      qed 𝓛 (P ∷ Q ∷ []) ∵ use1 𝓛 (P ⊛ P) p $ split ! $ move ! (2 ∷ []) $ use1 𝓛 (Q ⊛ Q) q $ split ! $ move ! (2 ∷ 0 ∷ []) $ join ! $
      move ! (0 ∷ 2 ∷ 1 ∷ []) $ done !

  module _ (D : Ended) (c : Clauses 𝓤 D) where
    abbrev pub Meant : Contract 𝓤
    Meant = triple_of 𝓛 D.signature (closing 𝓛 D c)

    -- what a call binds
    abbrev pub Binds : Type 0
    Binds = (x : Bound 𝓛 D.signature) × (c x.0 x.3).ghost

  -- a call: the function's clauses, and what is bound
  pub record Call : Type 2 where
    pub D : Ended
    pub c : Clauses 𝓤 D
    pub y : Binds D c

  abbrev pub calling : (D : Ended) (c : Clauses 𝓤 D) → Binds D c → Call
  calling D c y = record { D = D; c = c; y = y }

module _ {M : Type 1} {𝓤 : Ura M} {𝓛 : Logic 𝓤} (k : Call 𝓛) where
  -- what it is passed and what its contract says of that, the result and its type, the tokens, the last values, and what is said of them
  abbrev pub Pre : SProp 𝓤
  Pre = (Meant 𝓛 k.D k.c).pre k.y

  abbrev pub After : Val → SProp 𝓤
  After = (Meant 𝓛 k.D k.c).post k.y

  abbrev pub args : List Val
  args = (Meant 𝓛 k.D k.c).args k.y

  abbrev pub Owned : Fml
  Owned = owns (types_at k.D.signature.params k.y.0.0) k.y.0.3 k.y.0.4

  abbrev pub Asked : SProp 𝓤
  Asked = (k.c k.y.0.0 k.y.0.3).requires k.y.1

  abbrev pub Row : RattleType
  Row = type_at k.D.signature.result k.y.0.0

  abbrev pub Result : Type 0
  Result = Res k.D.signature k.y.0.0

  abbrev pub Tok : SProp 𝓤
  Tok = alive 𝓛 k.D.signature k.y.0.0 k.y.0.1

  abbrev pub Ws : Type 0
  Ws = Lasts k.D k.y.0.0 k.y.0.3

  abbrev pub last : Ws → Item 𝓤
  last ws = ‵ (lasts k.D k.y.0.0 k.y.0.3 ws)

  abbrev pub Ensured : Result → AtExit k.D k.y.0.0 → SProp 𝓤
  Ensured = (k.c k.y.0.0 k.y.0.3).ensures k.y.1

  abbrev pub says_of : Result → Ws → SProp 𝓤
  says_of r ws = Ensured r (at_exit k.D k.y.0.0 k.y.0.3 ws)

  abbrev gave : Val → Result → Item 𝓤
  gave u r = (raw Tok ⊛ ‵ (Row.own_val r (u ∷ []))) ⊛ raw (ensured 𝓛 k.D k.c k.y.0.0 k.y.0.3 k.y.1 r)

  -- what the `ensures` says of the result, whatever the last values are
  abbrev pub Whole : Result → Type 1
  Whole x = (r : Result) (e : AtExit k.D k.y.0.0) → ent 𝓤 (Ensured r e) (fact 𝓤 (r ≡ x))

  -- and of the last values: there is some z, with φ z, as the last list of a `&mut [T]`
  abbrev pub EndsSome : Result → {Z : Type 0} → (Z → Type 0) → (Z → Fml) → Type 1
  EndsSome x φ Q = (r : Result) (ws : Ws) → ent 𝓤 (mean 𝓛 (last ws ⊛ raw (says_of r ws)))
      (ex 𝓤 (λ z. guard 𝓤 ((r ≡ x) × φ z) (sem 𝓛 (Q z))))

  -- of the result alone, with last values that the contract fixes
  abbrev pub EndsWith : Result → Fml → Type 1
  EndsWith x Q = (r : Result) (ws : Ws) → ent 𝓤 (mean 𝓛 (last ws ⊛ raw (says_of r ws))) (guard 𝓤 (r ≡ x) (sem 𝓛 Q))

  -- the machine value of a result, where the type tells it
  module _ (vals : Result → List Val) where
    abbrev pub Told : Type 0
    Told = Tells Row (Is Row) vals

    abbrev pub Comes : Result → Type 0
    Comes x = Is Row x (only (vals x) ∷ [])

    abbrev pub Came : Result → Val → Type 0
    Came x u = (u ≡ only (vals x)) × Comes x

    came : Told → (r : Result) (u : Val) → Is Row r (u ∷ []) → Came r u
    came tl r u is =
        let e : u ≡ only (vals r) = ap only (tl r (u ∷ []) is) in
        (e, subst (λ (v : Val). Is Row r (v ∷ [])) e is)

    module _ (x : Result) {Z : Type 0} (φ : Z → Type 0) (Q : Z → Fml) where
      abbrev pub Gave : Val → Z → Item 𝓤
      Gave u z = given (Came x u × φ z) (raw Tok ⊛ ‵ (Q z))

      pub gave_some : EndsSome x φ Q → Told → (u : Val) → ent 𝓤 (After u) (mean 𝓛 (later (some (Gave u))))
      gave_some w tl u =
          qed 𝓛 (raw (After u) ∷ []) ∵ updating ! $ use1 𝓛 (later (some (gave u))) (id⊢ 𝓤 _) $ await ! tt $
          pick ! (λ r. split ! $ move ! (1 ∷ []) $ use1 𝓛 (some (λ (ws : Ws). last ws ⊛ raw (says_of r ws))) (id⊢ 𝓤 _) $
          pick ! (λ ws. use1 𝓛 (some (λ (z : Z). given ((r ≡ x) × φ z) (‵ (Q z)))) (w r ws) $
          pick ! (λ z. learn ! (λ e. move ! (1 ∷ []) $ split ! $ move ! (1 ∷ []) $
          facts ! Row (Is Row) (shows 𝓛 Row) r (u ∷ []) (λ is.
          at_once ! $ show ! (λ (z : Z). mean 𝓛 (Gave u z)) z $
          check ! (came tl x u (subst (λ (r : Result). Is Row r (u ∷ [])) e.0 is), e.1) $ done !)))))

      -- the last value is what `at` picks of the last values, and the `ensures` is a fact of it and of the result
      pub gave_one : (at : Ws → Z) → ((r : Result) (ws : Ws) → ent 𝓤 (says_of r ws) (fact 𝓤 ((r ≡ x) × φ (at ws))))
          → ((ws : Ws) → Sq 𝓛 (last ws ∷ []) (prop (sem 𝓛 (Q (at ws))))) → Told → (u : Val)
          → ent 𝓤 (After u) (mean 𝓛 (later (some (Gave u))))
      gave_one at says picks = gave_some (λ r ws.
          qed 𝓛 (last ws ∷ raw (says_of r ws) ∷ []) ∵ move ! (1 ∷ []) $ use1 𝓛 (raw (fact 𝓤 ((r ≡ x) × φ (at ws)))) (says r ws) $
          heard ! ((r ≡ x) × φ (at ws)) (λ e. show ! (λ (z : Z). guard 𝓤 ((r ≡ x) × φ z) (sem 𝓛 (Q z))) (at ws) $ check ! e $ picks ws))

  ends_with : (x : Result) (Q : Fml) → EndsWith x Q → EndsSome x {Z = Unit {0}} (λ _. Unit {0}) (λ _. Q)
  ends_with x Q w r ws =
      qed 𝓛 ((last ws ⊛ raw (says_of r ws)) ∷ []) ∵ use1 𝓛 (given (r ≡ x) (‵ Q)) (w r ws) $
      learn ! (λ e. show ! (λ (_ : Unit {0}). guard 𝓤 ((r ≡ x) × Unit {0}) (sem 𝓛 Q)) tt $ check ! (e, tt) $ done !)

  ends_whole : (x : Result) → Whole x → EndsWith x ftrue
  ends_whole x w r ws =
      qed 𝓛 (last ws ∷ raw (says_of r ws) ∷ []) ∵ move ! (1 ∷ []) $
      use1 𝓛 (raw (fact 𝓤 (r ≡ x))) (w r _) $ heard ! (r ≡ x) (λ e. let_go ! $ check ! e $ done !)

-- the same where the contract fixes the last values
pub gave_value : {M : Type 1} {𝓤 : Ura M} (𝓛 : Logic 𝓤) (D : Ended) (c : Clauses 𝓤 D) (y : Binds 𝓛 D c)
    → let k = calling 𝓛 D c y in
    (x : Result k) (Q : Fml) → EndsWith k x Q → (vals : Result k → List Val) → Told k vals → (u : Val)
    → ent 𝓤 (After k u) (mean 𝓛 (later (given (Came k vals x u) (raw (Tok k) ⊛ ‵ Q))))
gave_value 𝓛 D c y x Q w vals tl u =
    let k = calling 𝓛 D c y in
    qed 𝓛 (raw (After k u) ∷ []) ∵ updating ! $
    use1 𝓛 (later (some (Gave k vals x (λ (_ : Unit {0}). Unit {0}) (λ _. Q) u))) (gave_some k vals x _ (λ _. Q) (ends_with k x Q w) tl u) $
    await ! tt $ pick ! (λ _. learn ! (λ e. at_once ! $ check ! e.0 $ split ! $ done !))

module _ {M : Type 1} {𝓤 : Ura M} {𝓛 : Logic 𝓤} {K : Type 0} {Γ : List (Item 𝓤)} {E : Env 𝓤 𝓛.H}
    {C : Calls 𝓤 𝓛.H} {Λ : Loops 𝓤 𝓛.H} {q : Post 𝓤 𝓛.H} {f : Callee} {xs : List Operand} {d : Place} {rest : Body}
    (t : K) (fm : FmC 𝓤 𝓛.H 𝓛.laws C) (D : Ended) (c : Clauses 𝓤 D) (known : Triple 𝓤 (C f) (Meant 𝓛 D c)) (y : Binds 𝓛 D c) where
  -- a call that is given `&mut`s for good: its contract gives the result whole, and says something, φ, of some last values z, which Q z records
  pub calls_ends : (x : Result (calling 𝓛 D c y)) {Z : Type 0} (φ : Z → Type 0) (Q : Z → Fml) → let k = calling 𝓛 D c y in
      EndsSome k x φ Q → (vals : Result k → List Val) → Told k vals
      → Opds K 𝓛 (raw (Pre k) ∷ Γ) E xs (args k)
      → ((z : Z) → φ z → Comes k vals x → Seq K 𝓛 (raw (Tok k) ∷ ‵ (Q z) ∷ Γ) (lands C Λ E d (only (vals x)) rest q))
      → Seq K 𝓛 (raw (Pre k) ∷ Γ) (runs C Λ E (seq (call f xs d) rest) q)
  calls_ends x φ Q w vals tl os next =
      let k = calling 𝓛 D c y in
      calls_at t fm (Meant 𝓛 D c) known y os (λ u.
      use1 𝓛 (later (some (Gave k vals x φ Q u))) (gave_some k vals x φ Q w tl u) $ await t tt $ pick t (λ z. learn t (λ e.
      split t $ regoal t (λ (v : Val). lands C Λ E d v rest q) e.0.0 refl $ next z e.1 e.0.1)))

-- ---- a list that is lent
-- the reference to a list at a place, under a ghost name
abbrev pub at_list : (T : RattleType) (b o : ℕ) → GName → List T.Denot → MutBor (List T.Denot)
at_list T b o γ l = record { ref_ptr = (b, o); ghost_name = γ; now = l }

-- what a `&mut` of that list owns, where it has so many elements
abbrev pub slice_at : Lifetime → Lft → (T : RattleType) (b o : ℕ) → GName → List T.Denot → ℕ → Fml
slice_at ℓ κ T b o γ l m = (MutSlice ℓ κ T).own_val (at_list T b o γ l) (slice_val (b, o) m ∷ [])

module _ (T : RattleType) (holder loan : Lft) (share : Share) (γ : GName) (b o : ℕ) (l : List T.Denot) where
  abbrev pub Open : GName → Fml
  Open δ =
      fsep (flent loan (Held T (length l) b o δ))
      (fsep (fobor holder share (Held T (length l) b o γ)) (fsep (fobs γ ((coded_holeys T).code (heres T l))) (fauth γ ((coded_holeys T).code (heres T l)))))

  module _ {M : Type 1} {𝓤 : Ura M} (𝓛 : Logic 𝓤) (ℓ ℓ' : Lifetime) where
    open 𝓛 use {H, A}

    abbrev machine : List Val
    machine = slice_val (b, o) (length l) ∷ []

    into-loan : ent 𝓤 (sep 𝓤 (sem 𝓛 ((MutSlice ℓ holder T).own_val (at_list T b o γ l) machine)) (A.lft holder share))
        (H.⇛ (ex 𝓤 (λ (δ : GName). sep 𝓤 (sem 𝓛 ((MutSlice ℓ' loan T).own_val (at_list T b o δ l) machine)) (sem 𝓛 (Open δ)))))
    into-loan =
        qed 𝓛 (‵ ((MutSlice ℓ holder T).own_val (at_list T b o γ l) machine) ∷ ‵ (flft holder share) ∷ []) ∵ updating ! $
        -- the holder's borrow is opened
        fsplit ! $ pure_l ! (mut_slice_at T (at_list T b o γ l) machine) (λ p. fsplit ! $ opens_slice ! tt T l b o $
        -- what it holds is lent for the loan's lifetime
        use1 𝓛 (‵ (cells (mem T) l b o)) (whole_in 𝓛 T l b o) $
        use1 𝓛 (later (some (λ (δ : GName). ‵ ((MutSlice ℓ' loan T).own_val (at_list T b o δ l) machine) ⊛
        ‵ (flent loan (Held T (length l) b o δ))))) (lends_slice 𝓛 T ℓ' loan l b o p.1) $
        await ! tt $ pick ! (λ δ. split ! $
        -- [the slice of the loan; the loan; the open borrow; the two halves of γ]
        at_once ! $ show ! (λ (ε : GName). sep 𝓤 (sem 𝓛 ((MutSlice ℓ' loan T).own_val (at_list T b o ε l) machine)) (sem 𝓛 (Open ε))) δ $
        frame ! $
        move ! (2 ∷ 3 ∷ []) $ fjoin ! $ move ! (2 ∷ 0 ∷ []) $ fjoin ! $ move ! (1 ∷ 0 ∷ []) $ fjoin ! $ done !))

    out-of-loan : (δ : GName) (l' : List T.Denot) → Room T (length l) → length l' ≡ length l
        → ent 𝓤 (sep 𝓤 (A.dead loan) (sep 𝓤 (sem 𝓛 (Open δ)) (sem 𝓛 (finally T δ l'))))
        (H.⇛ (sep 𝓤 (sem 𝓛 ((MutSlice ℓ holder T).own_val (at_list T b o γ l') machine)) (A.lft holder share)))
    out-of-loan δ l' room e =
        qed 𝓛 (‵ (fdead loan) ∷ ‵ (Open δ) ∷ ‵ (finally T δ l') ∷ []) ∵ updating ! $
        -- the loan comes back at the list that the call left
        move ! (1 ∷ []) $ fsplit ! $ move ! (2 ∷ 0 ∷ 3 ∷ []) $
        use3 𝓛 (later (‵ ((Arr (mem T) (length l)).own_at l' b o))) (slice_back 𝓛 T loan δ l' (length l) b o) $ await ! tt $
        fsplit ! $ let_go ! $ use1 𝓛 (‵ (row T full_share l' b o)) (whole_out 𝓛 T l' b o) $
        -- the holder's borrow is closed at that list
        move ! (1 ∷ []) $ fsplit ! $ move ! (1 ∷ []) $ fsplit ! $ move ! (3 ∷ 2 ∷ 0 ∷ 1 ∷ []) $ closes_slice ! tt T l l' e b o $ at_once ! $
        fjoin ! $ pure_i ! (mut_slice_at T (at_list T b o γ l') machine) (tt, (tt, tt)) (
          ap (λ (m : ℕ). slice_val (b, o) m ∷ []) (sym e),
          subst (Room T) (sym e) room,
        ) $ fjoin ! $ done !

-- ---- the arguments
module _ {M : Type 1} {𝓤 : Ura M} (𝓛 : Logic 𝓤) (P : SProp 𝓤) where
  infixr 30 ◌&◌ ◌&'◌
  pub data Parts : Fml → Type 1 where
    all : Parts ftrue
    ◌&◌ : {X F : Fml} → ent 𝓤 P (sem 𝓛 X) → Parts F → Parts (fsep X F)

  pub data PartsBut (Q : SProp 𝓤) : Fml → Type 1 where
    but : {X F : Fml} → ent 𝓤 Q (sem 𝓛 X) → Parts F → PartsBut Q (fsep X F)
    ◌&'◌ : {X F : Fml} → ent 𝓤 P (sem 𝓛 X) → PartsBut Q F → PartsBut Q (fsep X F)

  parts⊢ : ent 𝓤 P (sep 𝓤 P P) → {F : Fml} → Parts F → ent 𝓤 P (sem 𝓛 F)
  parts⊢ twice all = top 𝓤 P
  parts⊢ twice (x & xs) = via 𝓤 _ twice (mono∗ 𝓤 x (parts⊢ twice xs))

  parts-but⊢ : ent 𝓤 P (sep 𝓤 P P) → {Q : SProp 𝓤} {F : Fml} → PartsBut Q F → ent 𝓤 (sep 𝓤 P Q) (sem 𝓛 F)
  parts-but⊢ twice {Q} (but x xs) = via 𝓤 _ (comm∗ 𝓤 P Q) (mono∗ 𝓤 x (parts⊢ twice xs))
  parts-but⊢ twice {Q} (x &' xs) =
      via 𝓤 _ (mono_l 𝓤 Q twice) (via 𝓤 _ (assoc∗ 𝓤 P P Q) (mono∗ 𝓤 x (parts-but⊢ twice xs)))

  pub plain : {R : RattleType} (d : Data R) (x : R.Denot) → Is R x (d.val x ∷ []) → ent 𝓤 P (sem 𝓛 (R.own_val x (d.val x ∷ [])))
  plain d x is = via 𝓤 _ (top 𝓤 P) (d.makes 𝓛 x (d.val x ∷ []) is)

-- ---- the tokens
pub record Spares {M : Type 1} (𝓤 : Ura M) (T B : SProp 𝓤) : Type 2 where
  pub rest : SProp 𝓤
  pub give : ent 𝓤 T (sep 𝓤 B rest)
  pub back : ent 𝓤 (sep 𝓤 B rest) T

module _ {M : Type 1} {𝓤 : Ura M} (𝓛 : Logic 𝓤) where
  -- none is asked, of any that there are
  open 𝓛 use {A}

  pub none : (X : SProp 𝓤) → Spares 𝓤 X (emp 𝓤)
  none X = record { rest = X; give = emp∗ 𝓤 X; back = snd∗ 𝓤 (emp 𝓤) X }

  module _ (κ : Lft) (q : Share) where
    abbrev X : SProp 𝓤
    X = A.lft κ q

    -- the one that there is
    pub the_one : Spares 𝓤 X (sep 𝓤 X (emp 𝓤))
    the_one = record {
      rest = emp 𝓤;
      give = qed 𝓛 (raw X ∷ []) ∵ nothing ! $ nothing ! $ joins ! 1 refl $ done !;
      back = via 𝓤 _ (fst∗ 𝓤 _ (emp 𝓤)) (fst∗ 𝓤 X (emp 𝓤));
    }

    module _ (κ₁ : Lft) (q₁ : Share) where
      abbrev X₁ : SProp 𝓤
      X₁ = A.lft κ₁ q₁

      -- both that there are, or the second
      pub beside : Spares 𝓤 (sep 𝓤 X X₁) (sep 𝓤 X (sep 𝓤 X₁ (emp 𝓤)))
      beside = record {
        rest = emp 𝓤;
        give = qed 𝓛 (raw X ∷ raw X₁ ∷ []) ∵ nothing ! $ joins ! 1 refl $ joins ! 0 refl $ nothing ! $ move ! (1 ∷ 0 ∷ []) $ done !;
        back = via 𝓤 _ (fst∗ 𝓤 _ (emp 𝓤)) (mono_r 𝓤 X (fst∗ 𝓤 X₁ (emp 𝓤)));
      }

      pub alone : Spares 𝓤 (sep 𝓤 X X₁) (sep 𝓤 X₁ (emp 𝓤))
      alone = record {
        rest = X;
        give = qed 𝓛 (raw X ∷ raw X₁ ∷ []) ∵ nothing ! $ joins ! 1 refl $ done !;
        back = via 𝓤 _ (mono_l 𝓤 X (fst∗ 𝓤 X₁ (emp 𝓤))) (comm∗ 𝓤 X₁ X);
      }

      module _ (κ₂ : Lft) (q₂ : Share) where
        abbrev X₂ : SProp 𝓤
        X₂ = A.lft κ₂ q₂

        -- all three that there are
        pub beside_two : Spares 𝓤 (sep 𝓤 (sep 𝓤 X X₁) X₂) (sep 𝓤 X (sep 𝓤 X₁ (sep 𝓤 X₂ (emp 𝓤))))
        beside_two = record {
          rest = emp 𝓤;
          give = qed 𝓛 ((raw X ⊛ raw X₁) ∷ raw X₂ ∷ []) ∵ split ! $ nothing ! $ joins ! 2 refl $ joins ! 1 refl $ joins ! 0 refl $ nothing ! $
              move ! (1 ∷ 0 ∷ []) $ done !;
          back = via 𝓤 _ (fst∗ 𝓤 _ (emp 𝓤)) (via 𝓤 _ (mono_r 𝓤 X (mono_r 𝓤 X₁ (fst∗ 𝓤 X₂ (emp 𝓤)))) (assoc' 𝓤 X X₁ X₂));
        }

-- ---- the call
module _ {M : Type 1} {𝓤 : Ura M} {𝓛 : Logic 𝓤} {K : Type 0} {E : Env 𝓤 𝓛.H}
    {q : Post 𝓤 𝓛.H} {f : Callee} {xs : List Operand} {d : Place} {rest : Body} where
  -- the operands are read in the context Γ, of which i is what the call takes, and Δ the frame
  open 𝓛 use {H}

  called : (𝓣 : Tables 𝓤 H) {Γ : List (Item 𝓤)} (Δ : List (Item 𝓤)) (vs : List Val) → Opds K 𝓛 Γ E xs vs
      → (i : Item 𝓤) (Q : Val → SProp 𝓤)
      → ent 𝓤 (⋆ 𝓛 Γ) (sep 𝓤 (mean 𝓛 i) (⋆ 𝓛 Δ)) → ent 𝓤 (mean 𝓛 i) (𝓣.C f vs Q)
      → ((r : Val) → Seq K 𝓛 (raw (Q r) ∷ Δ) (lands 𝓣.C 𝓣.Λ E d r rest q))
      → Seq K 𝓛 Γ (runs 𝓣.C 𝓣.Λ E (seq (call f xs d) rest) q)
  called 𝓣 {Γ} Δ vs os i Q takes met k =
      let after : Val → SProp 𝓤 = λ r. aim 𝓤 H (lands 𝓣.C 𝓣.Λ E d r rest q) in
      record {
        prf = via 𝓤 _ (os.go (λ us. 𝓣.C f us after) (via 𝓤 _ (via 𝓤 _ takes (mono_l 𝓤 (⋆ 𝓛 Δ) met))
            (fm_of 𝓤 H 𝓛.laws 𝓣 f vs Q after (⋆ 𝓛 Δ)
            (λ r. via 𝓤 _ (push 𝓛 (raw (Q r)) Δ) (k r).prf))))
            (𝓛.laws.⇛_intro _);
      }

  -- a call whose contract says something of the result, as of a part of a slice that is handed back: some r with φ r comes back, and what it owns
  pub gets : K → (𝓣 : Tables 𝓤 H) {Γ : List (Item 𝓤)} (n : ℕ) {T P : Item 𝓤} → nth 𝓛 n Γ ≡ T ⊛ P → Twice 𝓛 P
      → (D : Ended) (c : Clauses 𝓤 D) → Triple 𝓤 (𝓣.C f) (Meant 𝓛 D c) → (y : Binds 𝓛 D c) → let k = calling 𝓛 D c y in
      Spares 𝓤 (mean 𝓛 T) (Tok k) → Parts 𝓛 (mean 𝓛 P) (Owned k) → ent 𝓤 (emp 𝓤) (Asked k)
      → (φ : Result k → Type 0) → ((r : Result k) (e : AtExit D y.0.0) → ent 𝓤 (Ensured k r e) (fact 𝓤 (φ r)))
      → (vals : Result k → List Val) → Told k vals → Opds K 𝓛 Γ E xs (args k)
      → ((r : Result k) → φ r → Comes k vals r
      → Seq K 𝓛 (‵ ((Row k).own_val r (only (vals r) ∷ [])) ∷ Γ) (lands 𝓣.C 𝓣.Λ E d (only (vals r)) rest q))
      → Seq K 𝓛 Γ (runs 𝓣.C 𝓣.Λ E (seq (call f xs d) rest) q)
  gets t 𝓣 {Γ} n {T} {P} e twice D c known y sp parts asked φ w vals tl os next =
      let k = calling 𝓛 D c y in
      let R : RattleType = Row k in
      called 𝓣 (raw sp.rest ∷ P ∷ del 𝓛 n Γ) (args k) os (raw (Pre k)) (After k)
      (qed 𝓛 Γ ∵ move ! (n ∷ []) $ rewrite ! 0 (λ (i : Item 𝓤). i) e refl $ split ! $
      use1 𝓛 (raw (Tok k) ⊛ raw sp.rest) sp.give $ split ! $ move ! (2 ∷ []) $ use1 𝓛 (P ⊛ P) twice $ split ! $
      use1 𝓛 (‵ (Owned k)) (parts⊢ 𝓛 (mean 𝓛 P) twice parts) $
      move ! (2 ∷ 0 ∷ []) $ join ! $ use0 𝓛 (raw (Asked k)) asked $ move ! (1 ∷ 0 ∷ []) $ join ! $
      use1 𝓛 (raw (Pre k)) (id⊢ 𝓤 _) $ frame ! $ move ! (1 ∷ 0 ∷ []) $ done !)
      (known y) (λ u.
      use1 𝓛 (later (some (gave k u))) (id⊢ 𝓤 _) $ await t tt $ pick t (λ r. split t $ move t (1 ∷ []) $
      use1 𝓛 (some (λ (ws : Ws k). last k ws ⊛ raw (says_of k r ws))) (id⊢ 𝓤 _) $ pick t (λ ws. split t $ let_go t $
      use1 𝓛 (raw (fact 𝓤 (φ r))) (w r _) $ heard t (φ r) (λ said. split t $ move t (1 ∷ []) $
      peeks t R (Is R) (shows 𝓛 R) r (u ∷ []) (λ is.
      let z = came k vals tl r u is in
      rewrite t 0 (λ (v : Val). ‵ (R.own_val r (v ∷ []))) z.0 refl $
      -- [what the result owns; the tokens asked; those left; P]
      move t (1 ∷ 2 ∷ []) $ join t $ use1 𝓛 T sp.back $ move t (0 ∷ 2 ∷ []) $ join t $ move t (1 ∷ []) $
      regoal t (λ (v : Val). lands 𝓣.C 𝓣.Λ E d v rest q) z.0 refl $
      let own : Item 𝓤 = ‵ (R.own_val r (only (vals r) ∷ [])) in
      by t (via 𝓤 _ (pop 𝓛 own ((T ⊛ P) ∷ del 𝓛 n Γ))
      (via 𝓤 _ (mono_r 𝓤 (mean 𝓛 own) (via 𝓤 _ (pop 𝓛 (T ⊛ P) (del 𝓛 n Γ))
      (subst (λ (i : Item 𝓤). ent 𝓤 (sep 𝓤 (mean 𝓛 i) (⋆ 𝓛 (del 𝓛 n Γ))) (⋆ 𝓛 Γ)) e (unpull 𝓛 n Γ))))
      (via 𝓤 _ (push 𝓛 own Γ) (next r said z.1).prf))))))))

  -- a call whose contract gives the result whole, as plain data x
  pub calls : K → (𝓣 : Tables 𝓤 H) {Γ : List (Item 𝓤)} (n : ℕ) {T P : Item 𝓤} → nth 𝓛 n Γ ≡ T ⊛ P → Twice 𝓛 P
      → (D : Ended) (c : Clauses 𝓤 D) → Triple 𝓤 (𝓣.C f) (Meant 𝓛 D c) → (y : Binds 𝓛 D c) → let k = calling 𝓛 D c y in
      Spares 𝓤 (mean 𝓛 T) (Tok k) → Parts 𝓛 (mean 𝓛 P) (Owned k) → ent 𝓤 (emp 𝓤) (Asked k) → (x : Result k) → Whole k x
      → (r : Data (Row k)) → Opds K 𝓛 Γ E xs (args k)
      → (Is (Row k) x (r.val x ∷ []) → Holds (has_ty (lone (Row k).mir) (r.val x)) × WT (r.val x)
      → Seq K 𝓛 Γ (lands 𝓣.C 𝓣.Λ E d (r.val x) rest q))
      → Seq K 𝓛 Γ (runs 𝓣.C 𝓣.Λ E (seq (call f xs d) rest) q)
  calls t 𝓣 n e twice D c known y sp parts asked x whole r os next =
      let k = calling 𝓛 D c y in
      gets t 𝓣 n e twice D c known y sp parts asked (λ z. z ≡ x) whole (λ z. r.val z ∷ []) r.tells os (λ z i is.
      let is_x : Is (Row k) x (r.val x ∷ []) = subst (λ (z : Result k). Is (Row k) z (r.val z ∷ [])) i is in
      let_go t $ regoal t (λ (v : Val). lands 𝓣.C 𝓣.Λ E d v rest q) (ap r.val i) refl $ next is_x (r.typed 𝓛 x is_x))

-- ---- a call that is lent a list
-- what it is lent: the list l, at b and o, for a lifetime ν of its own and under a ghost name δ; what else it is given; and what its contract
-- says: the result, whose machine value is v, and of the list that it leaves φ
pub record Loan {M : Type 1} {𝓤 : Ura M} {𝓛 : Logic 𝓤} (T P : SProp 𝓤) (R : RattleType) (b o m : ℕ)
    (l : List R.Denot) (v : Val) (ψ : Type 0) (φ : List R.Denot → Type 0) (k : ℕ → GName → Call 𝓛) : Type 2 where
  pub tokens : (ν : ℕ) (δ : GName) → Spares 𝓤 (sep 𝓤 T (𝓛.A.lft (ν ∷ []) full_share)) (Tok (k ν δ))
  pub parts : (ν : ℕ) (δ : GName) → PartsBut 𝓛 P (sem 𝓛 (slice_at (named 0) (ν ∷ []) R b o δ l m)) (Owned (k ν δ))
  pub asked : (ν : ℕ) (δ : GName) → ent 𝓤 (emp 𝓤) (Asked (k ν δ))
  pub result : (ν : ℕ) (δ : GName) → Result (k ν δ)
  pub data_of : (ν : ℕ) (δ : GName) → Data (Row (k ν δ))
  pub tells : (ν : ℕ) (δ : GName) → ((data_of ν δ).val (result ν δ) ≡ v) ×
      (Is (Row (k ν δ)) (result ν δ) ((data_of ν δ).val (result ν δ) ∷ []) → ψ)
  pub same : (l' : List R.Denot) → φ l' → length l' ≡ m
  pub left : (ν : ℕ) (δ : GName) → Ws (k ν δ) → List R.Denot
  pub says : (ν : ℕ) (δ : GName) (z : Result (k ν δ)) (ws : Ws (k ν δ))
      → ent 𝓤 (says_of (k ν δ) z ws) (fact 𝓤 ((z ≡ result ν δ) × φ (left ν δ ws)))
  pub picks : (ν : ℕ) (δ : GName) (ws : Ws (k ν δ)) → Sq 𝓛 (last (k ν δ) ws ∷ []) (prop (sem 𝓛 (finally R δ (left ν δ ws))))

module _ {M : Type 1} {𝓤 : Ura M} {𝓛 : Logic 𝓤} {K : Type 0} {E : Env 𝓤 𝓛.H}
    {q : Post 𝓤 𝓛.H} {f : Callee} {xs : List Operand} {d : Place} {rest : Body} {Γ : List (Item 𝓤)} {T P : Item 𝓤} where
  open 𝓛 use {H}

  pub lends : K → (𝓣 : Tables 𝓤 H) (R : RattleType) (holder : Lft) (share : Share) (γ : GName) (b o m : ℕ) (l : List R.Denot)
      → Twice 𝓛 P → Room R m → length l ≡ m → (D : Ended) (c : Clauses 𝓤 D) → Triple 𝓤 (𝓣.C f) (Meant 𝓛 D c)
      → (v : Val) (ψ : Type 0) (φ : List R.Denot → Type 0) (y : ℕ → GName → Binds 𝓛 D c)
      → let k : ℕ → GName → Call 𝓛 = λ ν δ. calling 𝓛 D c (y ν δ) in
      (L : Loan (mean 𝓛 T) (mean 𝓛 P) R b o m l v ψ φ k)
      → ((ν : ℕ) (δ : GName) → Opds K 𝓛 (raw (sep 𝓤 (Pre (k ν δ)) (L.tokens ν δ).rest) ∷
      ‵ (Open R holder (ν ∷ []) share γ b o l δ) ∷ P ∷ Γ) E xs (args (k ν δ)))
      → ((l' : List R.Denot) → ψ → φ l'
      → Seq K 𝓛 ((T ⊛ P) ∷ ‵ (slice_at (named 0) holder R b o γ l' m) ∷ ‵ (flft holder share) ∷ Γ) (lands 𝓣.C 𝓣.Λ E d v rest q))
      → Seq K 𝓛 ((T ⊛ P) ∷ ‵ (slice_at (named 0) holder R b o γ l m) ∷ ‵ (flft holder share) ∷ Γ)
      (runs 𝓣.C 𝓣.Λ E (seq (call f xs d) rest) q)
  lends t 𝓣 R holder share γ b o m l twice room el D c known v ψ φ y L os next =
      rewrite t 1 (λ (n : ℕ). ‵ (slice_at (named 0) holder R b o γ l n)) (sym el) refl $ lft_new t tt (λ ν. move t (2 ∷ 3 ∷ []) $
      use2 𝓛 (later (some (λ (δ : GName). ‵ (slice_at (named 0) (ν ∷ []) R b o δ l (length l)) ⊛ ‵ (Open R holder (ν ∷ []) share γ b o l δ))))
      (into-loan R holder (ν ∷ []) share γ b o l 𝓛 (named 0) (named 0)) $ await t tt $ pick t (λ δ. split t $
      rewrite t 0 (λ (n : ℕ). ‵ (slice_at (named 0) (ν ∷ []) R b o δ l n)) el refl $
      -- [the slice lent; the open borrow; the loan's token; the tokens and P]: what the call asks is put together
      let k : Call 𝓛 = calling 𝓛 D c (y ν δ) in
      let spare : SProp 𝓤 = (L.tokens ν δ).rest in
      let loan : Item 𝓤 = ‵ (Open R holder (ν ∷ []) share γ b o l δ) in
      let vals : Result k → List Val = λ x. (L.data_of ν δ).val x ∷ [] in
      move t (3 ∷ []) $ split t $ move t (0 ∷ 4 ∷ []) $ join t $ use1 𝓛 (raw (Tok k) ⊛ raw spare) (L.tokens ν δ).give $ split t $
      move t (2 ∷ []) $ use1 𝓛 (P ⊛ P) twice $ split t $ move t (0 ∷ 4 ∷ []) $ join t $
      use1 𝓛 (‵ (Owned k)) (parts-but⊢ 𝓛 (mean 𝓛 P) twice (L.parts ν δ)) $ move t (2 ∷ 0 ∷ []) $ join t $
      use0 𝓛 (raw (Asked k)) (L.asked ν δ) $ move t (1 ∷ 0 ∷ []) $ join t $
      use1 𝓛 (raw (Pre k)) (id⊢ 𝓤 _) $ move t (0 ∷ 2 ∷ []) $ join t $ use1 𝓛 (raw (sep 𝓤 (Pre k) spare)) (id⊢ 𝓤 _) $
      move t (0 ∷ 2 ∷ 1 ∷ []) $
      called 𝓣 (raw spare ∷ loan ∷ P ∷ Γ) (args k) (os ν δ) (raw (Pre k)) (After k)
      (qed 𝓛 (raw (sep 𝓤 (Pre k) spare) ∷ loan ∷ P ∷ Γ) ∵ use1 𝓛 (raw (Pre k) ⊛ raw spare) (id⊢ 𝓤 _) $ split ! $ frame ! $ done !)
      (known (y ν δ)) (λ u.
      use1 𝓛 (later (some (Gave k vals (L.result ν δ) φ (finally R δ) u)))
      (gave_one k vals (L.result ν δ) φ (finally R δ) (L.left ν δ) (L.says ν δ) (L.picks ν δ) (L.data_of ν δ).tells u) $
      await t tt $ pick t (λ l'. learn t (λ e. split t $
      -- [the tokens asked; the last list; the tokens left; the open borrow; P]: the loan ends, and the borrow is closed at the last list
      move t (0 ∷ 2 ∷ []) $ join t $ use1 𝓛 (T ⊛ ‵ (flft (ν ∷ []) full_share)) (L.tokens ν δ).back $ split t $ move t (1 ∷ []) $ lft_end t tt $
      move t (0 ∷ 3 ∷ 2 ∷ []) $ use3 𝓛 (later (‵ (slice_at (named 0) holder R b o γ l' (length l)) ⊛ ‵ (flft holder share)))
      (out-of-loan R holder (ν ∷ []) share γ b o l 𝓛 (named 0) (named 0) δ l' (subst (Room R) (sym el) room) (L.same l' e.1 ∙ sym el)) $
      await t tt $ split t $ rewrite t 0 (λ (n : ℕ). ‵ (slice_at (named 0) holder R b o γ l' n)) el refl $ move t (2 ∷ 3 ∷ []) $ join t $
      regoal t (λ (w : Val). lands 𝓣.C 𝓣.Λ E d w rest q) (e.0.0 ∙ (L.tells ν δ).0) refl $
      next l' ((L.tells ν δ).1 e.0.1) e.1)))))

-- ---- a return
module _ {M : Type 1} {𝓤 : Ura M} {𝓛 : Logic 𝓤} {K : Type 0} {T P Q tok : Item 𝓤} where
  pub ends : K → (D : Ended) (ps : Params D.signature.params D.kept) (c : Clauses 𝓤 D) (y : Binds 𝓛 D c) → Twice 𝓛 P
      → let k = calling 𝓛 D c y in
      let hs = stays D.signature.params D.kept ps in
      Spares 𝓤 (mean 𝓛 (T ⊛ tok)) (Tok k) → (r : Data (Row k)) (x : Result k) → Is (Row k) x (r.val x ∷ []) → (ws : Ws k)
      → Fit D hs y.0.0 y.0.3 ws → ent 𝓤 (emp 𝓤) (says_of k x ws)
      → PartsBut 𝓛 (mean 𝓛 P) (mean 𝓛 Q) (has_of y.0.0 D.signature.params D.kept hs y.0.3 ws y.0.4)
      → Seq K 𝓛 ((T ⊛ P) ∷ Q ∷ tok ∷ []) (prop ((walk_of 𝓛 D hs c).post y (r.val x)))
  ends t D ps c y twice sp r x is ws fit e parts =
      let k = calling 𝓛 D c y in
      let hs : Stays D.signature.params D.kept = stays D.signature.params D.kept ps in
      suffices t _ (ends_at 𝓛 D hs c y (r.val x) x ws fit) $ use0 𝓛 (raw (says_of k x ws)) e $ move t (1 ∷ []) $ split t $
      move t (0 ∷ 4 ∷ []) $ join t $ use1 𝓛 (raw (Tok k) ⊛ raw sp.rest) sp.give $ split t $ move t (1 ∷ []) $ let_go t $
      -- [the tokens; P; what is ensured; Q]
      move t (1 ∷ 3 ∷ []) $ join t $ use1 𝓛 (‵ (has_of y.0.0 D.signature.params D.kept hs y.0.3 ws y.0.4))
      (parts-but⊢ 𝓛 (mean 𝓛 P) twice parts) $
      use0 𝓛 (‵ ((Row k).own_val x (r.val x ∷ []))) (r.makes 𝓛 x (r.val x ∷ []) is) $
      move t (1 ∷ 0 ∷ []) $ join t $ move t (1 ∷ 0 ∷ []) $ join t $ done t

-- ---- a call that is passed all that the function was
module _ {M : Type 1} {𝓤 : Ura M} {𝓛 : Logic 𝓤} {K : Type 0} {Γ : List (Item 𝓤)} {E : Env 𝓤 𝓛.H}
    {C : Calls 𝓤 𝓛.H} {Λ : Loops 𝓤 𝓛.H} {q : Post 𝓤 𝓛.H} {f : Callee} {xs : List Operand} {d : Place} {rest : Body} where
  open 𝓛 use {H}

  pub calls_whole : K → FmC 𝓤 H 𝓛.laws C → (S : Signature) (c : Spec 𝓤 S) → let T = triple_of 𝓛 S c in Triple 𝓤 (C f) T
      → (y : T.Ghost) → let R = type_at S.result y.0.0 in Lawful 𝓛 R → Opds K 𝓛 (raw (T.pre y) ∷ Γ) E xs (T.args y)
      → ((v : Val) → Typed R.mir (v ∷ []) → Seq K 𝓛 (raw (T.post y v) ∷ Γ) (lands C Λ E d v rest q))
      → Seq K 𝓛 (raw (T.pre y) ∷ Γ) (runs C Λ E (seq (call f xs d) rest) q)
  calls_whole t fm S c known y ok os k =
      let R : RattleType = type_at S.result y.0.0 in
      let ensures : Res S y.0.0 → SProp 𝓤 = (c y.0.0 y.0.3).ensures y.1 in
      calls_at t fm (triple_of 𝓛 S c) known y os (λ v.
      use1 𝓛 (later (some (λ (r : Res S y.0.0). (raw (alive 𝓛 S y.0.0 y.0.1) ⊛ ‵ (R.own_val r (v ∷ []))) ⊛ raw (ensures r))))
      (id⊢ 𝓤 _) $ await t tt $ pick t (λ r. split t $ split t $ move t (1 ∷ []) $ peeks t R (Is R) (shows 𝓛 R) r (v ∷ []) (λ is.
      move t (1 ∷ 0 ∷ []) $ join t $ join t $ use1 𝓛 (raw ((triple_of 𝓛 S c).post y v))
      (via 𝓤 _ (ex_i 𝓤 (λ (r : Res S y.0.0). sep 𝓤 (Back 𝓛 S y.0 v r) (ensures r)) r) (𝓛.laws.⇛_intro _)) $
      k v (ok.typed r (v ∷ []) is))))
