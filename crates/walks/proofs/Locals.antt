-- Rules for a local that is lent to a call.
--     array_out, array_in     a local array lent as a slice: its cell, with what its elements own, is the row that is lent, and the row
--                             that comes back is the cell again
--     array_lent, array_back  a local array lent as a `&[T]`, and back
--     calls_local             a local that holds a reference at a lifetime is lent by `&mut` to a call, for a lifetime of the call's own
--                             that the other outlives, and comes back with another value
use Rattle.walks.proofs.Names.{◌≡◌, refl, sym, subst, ℕ, List, [], ◌∷◌, length, Ura, full_share, named, ty_array, Val, vptr, SProp, ent, sep}
use Rattle.walks.proofs.Names.{guard, via, Lft, Share, GName, Fml, ftrue, fsep, fat, flft, flent, Env, Calls, Loops, sem, Item}
use Rattle.walks.proofs.Names.{‵, raw, given, some, later, ◌⊛◌, runs, split, pick, learn, use2, use3, await, ◌$◌, ◌∵◌, !, qed, by, move}
use Rattle.walks.proofs.Names.{use1, rewrite, let_go as drop, fsplit, fjoin, feq_i, done, Body, cells, lft_new, lft_end, FmC, RattleType, Is, shows}
use Rattle.walks.proofs.Names.{cell_at, mem, row, MutRef, Room, only, peeks, Contract, Triple}
use base.Share
use mir.Syntax.{Lifetime, Callee, Place, Opd as Operand, Body as Code, seq, call}
use base.Logic.{wand, apply∗, mono_l}
use base.Fml.{fdead, fres, Incl}
use ghost.Rules.{Toks, span}
use types.Logic.{Logic, sem, lfts}
use contract.BorrowLft.{meet_⊑_left}
use types.Kit.{mean, Post, Seq, lands, regoal, fpick, fpack, updating, now as at_once}
use types.Run.{Opds}
use types.Share.{arr_parts}
use types.Tokens.{lent_back}
use denote.Laws.{Tells}
use denote.Memory.{lone, part_at, shares, part_of, shared_of}
use denote.Shares.{SharesAsFrom}
use denote.Array.{Array, array_vals, Array-Tells}
use denote.ArrayMemory.{Single, Array-apart, Array-whole}
use denote.Index.{whole_in, whole_out}
use denote.Lend.{lends_ref, ref_back, lends_shr_slice, LentShrs}
use denote.Triple.Call.{calls_at}

module _ {M : Type 1} {𝓤 : Ura M} (𝓛 : Logic 𝓤) (R : RattleType) (n : ℕ) (xs : List R.Denot) (b : ℕ) where
  -- the cell of the local, with what its elements own; and the elements side by side
  open 𝓛 use {H, A}

  abbrev Local : Val → SProp 𝓤
  Local v = sep 𝓤 (H.at full_share (ty_array (lone R.mir) n) b 0 v) (sem 𝓛 ((Array R n).own_val xs (v ∷ [])))

  abbrev pub Elements : Fml
  Elements = (arr_parts (shares R) n).part full_share xs b 0

  apart : Single R.mir → (v : Val) → ent 𝓤 (Local v) (sem 𝓛 Elements)
  unfolding part_of
  apart one v =
      qed 𝓛 (‵ (fat full_share (ty_array (lone R.mir) n) b 0 v) ∷ ‵ ((Array R n).own_val xs (v ∷ [])) ∷ []) ∵
      use1 𝓛 (‵ (cell_at full_share (Array R n).mir (v ∷ []) b 0)) (𝓛.laws.at_raw full_share (ty_array (lone R.mir) n) b 0 v) $ fjoin ! $
      fpack ! (List Val) (λ us. fsep (cell_at full_share (Array R n).mir us b 0) ((Array R n).own_val xs us)) (v ∷ []) $
      by ! (Array-apart 𝓛 R full_share one n xs b 0)

  pub array_out : Single R.mir → (v : Val) → ent 𝓤 (Local v) (sem 𝓛 (cells (mem R) xs b 0))
  array_out one v = via 𝓤 _ (apart one v) (qed 𝓛 (‵ Elements ∷ []) ∵ fsplit ! $ drop ! $ by ! (whole_in 𝓛 R xs b 0))

  -- the elements, as a loan of a slice has them: as many as there are
  abbrev pub Counted : Fml
  Counted = (arr_parts (shares R) (length xs)).part full_share xs b 0

  counted : length xs ≡ n → (P : SProp 𝓤) → (ent 𝓤 P (sem 𝓛 Elements) → ent 𝓤 P (sem 𝓛 Counted))
      × (ent 𝓤 (sem 𝓛 Elements) P → ent 𝓤 (sem 𝓛 Counted) P)
  counted e P = (
    subst (λ (m : ℕ). ent 𝓤 P (sem 𝓛 ((arr_parts (shares R) m).part full_share xs b 0))) (sym e),
    subst (λ (m : ℕ). ent 𝓤 (sem 𝓛 ((arr_parts (shares R) m).part full_share xs b 0)) P) (sym e),
  )

  -- lent by `&` for κ, over tokens ts that outlive it, which come back
  pub array_lent : Single R.mir → length xs ≡ n → Room R (length xs) → (ℓ : Lifetime) (κ : Lft) (v : Val) (l : Lft)
      → SharesAsFrom 𝓛 full_share R (shared_of R) l → (ts : Toks) → Incl (span ts) l → Incl (span ts) κ
      → ent 𝓤 (sep 𝓤 (Local v) (lfts 𝓛 ts)) (H.⇛ (sep 𝓤 (LentShrs 𝓛 R ℓ κ full_share xs b 0) (lfts 𝓛 ts)))
  array_lent one e room ℓ κ v l shares ts in_l in_κ =
      via 𝓤 _ (mono_l 𝓤 (lfts 𝓛 ts) ((counted e (Local v)).0 (apart one v)))
      (lends_shr_slice 𝓛 R ℓ κ full_share xs b 0 room l shares ts in_l in_κ)

  module _ (vals : R.Denot → List Val) (tl : Tells R (Is R) vals) where
    abbrev whole : Val
    whole = only (array_vals vals xs)

    together : ent 𝓤 (sem 𝓛 Elements) (Local whole)
    unfolding part_of
    together =
        qed 𝓛 (‵ Elements ∷ []) ∵
        use1 𝓛 (‵ (part_at (Array R n) full_share xs b 0)) (Array-whole 𝓛 R full_share n xs b 0) $ fpick ! (λ vs. fsplit ! $ move ! (1 ∷ []) $
        peeks ! (Array R n) (Is (Array R n)) (shows 𝓛 (Array R n)) xs vs (λ is.
        rewrite ! 0 (λ (us : List Val). ‵ ((Array R n).own_val xs us)) (Array-Tells R vals tl n xs vs is) refl $
        rewrite ! 1 (λ (us : List Val). ‵ (cell_at full_share (Array R n).mir us b 0)) (Array-Tells R vals tl n xs vs is) refl $ move ! (1 ∷ 0 ∷ []) $
        use1 𝓛 (‵ (fat full_share (ty_array (lone R.mir) n) b 0 whole))
        (𝓛.laws.raw_at full_share (ty_array (lone R.mir) n) b 0 whole) $ done !))

    pub array_in : length xs ≡ n → ent 𝓤 (sem 𝓛 (cells (mem R) xs b 0)) (Local whole)
    array_in e =
        qed 𝓛 (‵ (cells (mem R) xs b 0) ∷ []) ∵ use1 𝓛 (‵ (row R full_share xs b 0)) (whole_out 𝓛 R xs b 0) $ feq_i ! ℕ (length xs) n e $
        fjoin ! $ by ! together

    -- the array again, once κ is over
    pub array_back : length xs ≡ n → (κ : Lft) → ent 𝓤 (sep 𝓤 (A.dead κ) (A.lent κ Counted)) (H.⇛ (Local whole))
    array_back e κ =
        qed 𝓛 (‵ (fdead κ) ∷ ‵ (flent κ Counted) ∷ []) ∵ updating ! $ lent_back ! tt $ at_once ! $
        by ! ((counted e (Local whole)).1 together)

-- the tokens that the callee has, of ν ∷ κ and of κ
abbrev pub Tokens : {M : Type 1} {𝓤 : Ura M} → ℕ → Lft → Share → Item 𝓤
Tokens ν κ q = ‵ (flft (ν ∷ κ) (Share.left q)) ⊛ ‵ (flft κ (Share.right q)) ⊛ ‵ ftrue

-- ---- a local that holds a reference at κ, lent by `&mut` to a call, and back at h': the lifetime of the loan is a new one, ν, met with κ,
-- so that κ outlives it. The local is `part_at`, its cell with what it owns
module _ {M : Type 1} {𝓤 : Ura M} {𝓛 : Logic 𝓤} {K : Type 0} {Γ : List (Item 𝓤)} {E : Env 𝓤 𝓛.H}
    {C : Calls 𝓤 𝓛.H} {Λ : Loops 𝓤 𝓛.H} {p : Post 𝓤 𝓛.H} {f : Callee} {xs : List Operand} {d : Place} {rest : Code} where
  open 𝓛 use {H, A}

  pub calls_local : K → FmC 𝓤 H 𝓛.laws C → (cc : Contract 𝓤) → Triple 𝓤 (C f) cc → (R : RattleType) (κ : Lft) (q : Share) (b : ℕ)
      (h h' : R.Denot) (y : ℕ → GName → cc.Ghost) (v : Val) (ψ : Type 0)
      → ((ν : ℕ) (γ : GName) → ent 𝓤
      (sep 𝓤 (A.lft (ν ∷ κ) (Share.left q))
      (sep 𝓤 (A.lft κ (Share.right q)) (sem 𝓛 ((MutRef (named 0) (ν ∷ κ) R).own_val (record { ref_ptr = (b, 0); ghost_name = γ; now = h })
      (vptr b 0 ∷ []))))) (cc.pre (y ν γ)))
      → ((ν : ℕ) (γ : GName) (u : Val) → ent 𝓤 (cc.post (y ν γ) u)
      (H.⇛ (guard 𝓤 ((u ≡ v) × ψ) (sep 𝓤 (mean 𝓛 (Tokens ν κ q)) (A.res γ (R.coded.code h'))))))
      → ((ν : ℕ) (γ : GName) → Opds K 𝓛 (raw (cc.pre (y ν γ)) ∷ ‵ (flent (ν ∷ κ) (Body (mem R) b 0 γ)) ∷ raw
      (wand 𝓤 (A.lft (ν ∷ []) (Share.left q)) (A.lft (ν ∷ []) full_share)) ∷ Γ) E xs (cc.args (y ν γ)))
      → (ψ → Seq K 𝓛 (‵ (part_at R full_share h' b 0) ∷ ‵ (flft κ q) ∷ Γ) (lands C Λ E d v rest p))
      → Seq K 𝓛 (‵ (part_at R full_share h b 0) ∷ ‵ (flft κ q) ∷ Γ) (runs C Λ E (seq (call f xs d) rest) p)
  calls_local t fm cc known R κ q b h h' y v ψ asks gives os k =
      lft_new t tt (λ ν. use1 𝓛
      (‵ (flft (ν ∷ []) (Share.left q)) ⊛ raw (wand 𝓤 (A.lft (ν ∷ []) (Share.left q)) (A.lft (ν ∷ []) full_share)))
      (𝓛.lfts.lft_carve ν (Share.left q)) $ split t $
      move t (3 ∷ []) $ use1 𝓛 (‵ (flft κ (Share.left q)) ⊛ ‵ (flft κ (Share.right q))) (𝓛.lfts.lft_split κ q) $ split t $
      move t (2 ∷ 0 ∷ []) $ use2 𝓛 (‵ (flft (ν ∷ κ) (Share.left q))) (𝓛.lfts.lft_meet (ν ∷ []) κ (Share.left q)) $
      move t (3 ∷ []) $ use1 𝓛 (later
      (some (λ (γ : GName). ‵ ((MutRef (named 0) (ν ∷ κ) R).own_val (record { ref_ptr = (b, 0); ghost_name = γ; now = h }) (vptr b 0 ∷ [])) ⊛
      ‵ (flent (ν ∷ κ) (Body (mem R) b 0 γ))))) (lends_ref 𝓛 R (named 0) (ν ∷ κ) h b 0) $ await t tt $ pick t (λ γ. split t $
      move t (2 ∷ 3 ∷ 0 ∷ []) $ use3 𝓛 (raw (cc.pre (y ν γ))) (asks ν γ) $
      calls_at t fm cc known (y ν γ) (os ν γ) (λ u. use1 𝓛 (later (given ((u ≡ v) × ψ) (Tokens ν κ q ⊛ ‵ (fres γ (R.coded.code h')))))
      (gives ν γ u) $ await t tt $ learn t (λ e. split t $ split t $ move t (1 ∷ []) $ split t $
      -- [κ's right half; true; the token of the meet; the last value; what comes back; the way back to ν's token]
      move t (2 ∷ []) $ use1 𝓛 (‵ (flft (ν ∷ []) (Share.left q)) ⊛ ‵ (flft κ (Share.left q)))
      (𝓛.lfts.lft_unmeet (ν ∷ []) κ (Share.left q)) $ split t $ move t (0 ∷ 6 ∷ []) $
      use2 𝓛 (‵ (flft (ν ∷ []) full_share)) (apply∗ 𝓤 (A.lft (ν ∷ []) (Share.left q)) (A.lft (ν ∷ []) full_share)) $ lft_end t tt $
      use1 𝓛 (‵ (fdead (ν ∷ κ))) (𝓛.lfts.dead-incl (ν ∷ κ) (ν ∷ []) (meet_⊑_left (ν ∷ []) κ)) $
      move t (0 ∷ 5 ∷ 4 ∷ []) $ use3 𝓛 (later (‵ (part_at R full_share h' b 0))) (ref_back 𝓛 R (ν ∷ κ) γ h' b 0) $ await t tt $
      move t (1 ∷ 2 ∷ []) $ use2 𝓛 (‵ (flft κ q)) (𝓛.lfts.lft_join κ q) $ move t (2 ∷ []) $ drop t $ move t (1 ∷ 0 ∷ []) $
      regoal t (λ (w : Val). lands C Λ E d w rest p) e.0 refl $ k e.1))))
