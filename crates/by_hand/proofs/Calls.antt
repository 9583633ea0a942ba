-- Steps of a walk by hand: a call whose arguments are plain data, a call that is lent a slice, a loop that counts up; and from a walk to the contract.
use mathlib.Core.Path.{◌≡◌, sym, ap, subst}
use mathlib.Core.List.{List, [], ◌∷◌}
use Prim.Native.Nat.{ℕ, zero, suc, ◌+◌, ◌<◌}
use native.Mathlib.Omega.{arith}
use seplogic.Ra.Ura.{Ura}
use lib.WfN.{lt-wf_rel}
use mir.Syntax.{Fn, Callee, Place, Opd as Operand, Body, seq, call, loop}
use mir.Val.{Val}
use base.Logic.{SProp, ent, sep, ex, guard, via, emp, id⊢, emp∗, comm∗, mono∗, ex_i, ex_e, guard_i, guard_e}
use prog.Wp.{Calls, Loops, Env, Out, WpFn, Wp, Tables, Closed, after_turn}
use prog.Model.{Model}
use prog.Routine as routine
use sound.Loop.{loop_rule}
use sound.WpLaws.{FmC, fm_of, WpFn-mono}
use types.Logic.{Logic}
use contract.Monad.{fact}
use contract.Running.{Running, tables, tables_of}
use types.Kit.{Item, ‵, raw, some, later, ◌⊛◌, mean, Goal, Post, runs, lands, Soaks, Seq, ◌$◌, Step, prop, suffices, use0, use1, use2, split, move, drop, pick, await}
use types.Run.{Opds}
use denote.RattleType.{RattleType}
use denote.Laws.{Is, Ises, Are, Tells, Makess, owns_make, shows}
use denote.Signature.{type_at, types_at}
use denote.Steps.{only, peeks, heard}
use denote.Triple.Statement.{Contract, Triple}
use denote.Triple.Entry.{alive}
use denote.Triple.Call.{calls_at}
use denote.Triple.Clauses.{Ended, Clauses, Lasts, at_exit, lasts, closing}
use denote.Triple.Spec.{triple_of}
use denote.Triple.Table.{entered}
use denote.Triple.Walked.{Stays, AllGo, Walks, walk_Meets}

module _ {M : Type 1} {𝓤 : Ura M} (𝓛 : Logic 𝓤) where
  abbrev pub contract_of : (T : Ended) → Clauses 𝓤 T → Contract 𝓤
  contract_of T c = triple_of 𝓛 T.signature (closing 𝓛 T c)

module _ {M : Type 1} {𝓤 : Ura M} (𝓛 : Logic 𝓤) (T : Ended) (c : Clauses 𝓤 T) (y : (contract_of 𝓛 T c).Ghost) where
  open 𝓛 use {H}

  abbrev pub Result : RattleType
  Result = type_at T.signature.result y.0.0

  abbrev pub Last : Type 0
  Last = Lasts T y.0.0 y.0.3

  abbrev pub Says : (Result.Denot → Last → Type 0) → Type 1
  Says φ = (r : Result.Denot) (ws : Last) → ent 𝓤 ((c y.0.0 y.0.3).ensures y.1 r (at_exit T y.0.0 y.0.3 ws)) (fact 𝓤 (φ r ws))

  abbrev pub Types : List RattleType
  Types = types_at T.signature.params y.0.0

  abbrev pub Tokens : SProp 𝓤
  Tokens = alive 𝓛 T.signature y.0.0 y.0.1

  module _ {K : Type 0} {Γ : List (Item 𝓤)} {G : Goal 𝓤 H} where
    -- what a call has left: its result, of which the `ensures` says φ, the tokens, and what is said of last values
    pub answered : K → Soaks G → (v : Val) (φ : Result.Denot → Last → Type 0) → Says φ
        → ((r : Result.Denot) (ws : Last) → φ r ws → Is Result r (v ∷ []) → Seq K 𝓛 (‵ (Result.own_val r (v ∷ [])) ∷ raw Tokens ∷ ‵ (lasts T y.0.0 y.0.3 ws) ∷ Γ) G)
        → Seq K 𝓛 (raw ((contract_of 𝓛 T c).post y v) ∷ Γ) G
    answered t soaks v φ says k =
        use1 𝓛 (later (some (λ (r : Result.Denot). (raw Tokens ⊛ ‵ (Result.own_val r (v ∷ []))) ⊛ some (λ (ws : Last). ‵ (lasts T y.0.0 y.0.3 ws) ⊛ raw ((c y.0.0 y.0.3).ensures y.1 r (at_exit T y.0.0 y.0.3 ws)))))) (id⊢ 𝓤 _) $ await t soaks $ pick t (λ r.
        split t $ move t (1 ∷ []) $ pick t (λ ws. split t $ move t (1 ∷ []) $ use1 𝓛 (raw (fact 𝓤 (φ r ws))) (says r ws) $ heard t (φ r ws) (λ e.
        move t (1 ∷ []) $ split t $ move t (1 ∷ []) $ peeks t Result (Is Result) (shows 𝓛 Result) r (v ∷ []) (λ is. k r ws e is))))

  module _ {K : Type 0} {Γ : List (Item 𝓤)} {E : Env 𝓤 H} {C : Calls 𝓤 H} {Λ : Loops 𝓤 H} {f : Callee} {xs : List Operand} {q : Post 𝓤 H} {d : Place} where
    -- a call whose `pre` is had, with its result at its own machine value
    pub calls_with : K → FmC 𝓤 H 𝓛.laws C → {rest : Body} → Triple 𝓤 (C f) (contract_of 𝓛 T c) → Opds K 𝓛 (raw ((contract_of 𝓛 T c).pre y) ∷ Γ) E xs ((contract_of 𝓛 T c).args y)
        → (φ : Result.Denot → Last → Type 0) → Says φ → (vals : Result.Denot → List Val) → Tells Result (Is Result) vals
        → ((r : Result.Denot) (ws : Last) → φ r ws → Is Result r (only (vals r) ∷ []) → Seq K 𝓛 (‵ (Result.own_val r (only (vals r) ∷ [])) ∷ raw Tokens ∷ ‵ (lasts T y.0.0 y.0.3 ws) ∷ Γ) (lands C Λ E d (only (vals r)) rest q))
        → Seq K 𝓛 (raw ((contract_of 𝓛 T c).pre y) ∷ Γ) (runs C Λ E (seq (call f xs d) rest) q)
    calls_with t fm {rest} known ops φ says vals tells k =
        calls_at t fm (contract_of 𝓛 T c) known y ops (λ v. answered t tt v φ says (λ r ws e is.
        subst (λ (u : Val). Is Result r (u ∷ []) → Seq K 𝓛 (‵ (Result.own_val r (u ∷ [])) ∷ raw Tokens ∷ ‵ (lasts T y.0.0 y.0.3 ws) ∷ Γ) (lands C Λ E d u rest q)) (sym (ap only (tells r (v ∷ []) is))) (k r ws e) is))

  module _ {K : Type 0} {Γ : List (Item 𝓤)} {E : Env 𝓤 H} {C : Calls 𝓤 H} {Λ : Loops 𝓤 H} {f : Callee} {xs : List Operand} {q : Post 𝓤 H} {d : Place} where
    -- a call whose arguments are plain data
    pub calls_plain : K → FmC 𝓤 H 𝓛.laws C → {rest : Body} → Triple 𝓤 (C f) (contract_of 𝓛 T c) → ent 𝓤 (emp 𝓤) Tokens → ent 𝓤 (emp 𝓤) ((c y.0.0 y.0.3).requires y.1)
        → Makess 𝓛 Types (Ises Types) → Are Types (Ises Types) y.0.3 y.0.4 → Opds K 𝓛 (raw ((contract_of 𝓛 T c).pre y) ∷ Γ) E xs ((contract_of 𝓛 T c).args y)
        → (φ : Result.Denot → Type 0) → Says (λ r ws. φ r) → (vals : Result.Denot → List Val) → Tells Result (Is Result) vals
        → ((r : Result.Denot) → φ r → Is Result r (only (vals r) ∷ []) → Seq K 𝓛 Γ (lands C Λ E d (only (vals r)) rest q)) → Seq K 𝓛 Γ (runs C Λ E (seq (call f xs d) rest) q)
    calls_plain t fm known free asks makes are ops φ says vals tells k =
        use0 𝓛 (raw ((contract_of 𝓛 T c).pre y))
        (via 𝓤 (sep 𝓤 (emp 𝓤) (emp 𝓤)) (emp∗ 𝓤 (emp 𝓤)) (mono∗ 𝓤 (via 𝓤 (sep 𝓤 (emp 𝓤) (emp 𝓤)) (emp∗ 𝓤 (emp 𝓤)) (mono∗ 𝓤 free (owns_make 𝓛 Types (Ises Types) makes y.0.3 y.0.4 are))) asks)) $
        calls_with t fm known ops (λ r ws. φ r) says vals tells (λ r ws e is. drop t $ drop t $ drop t $ k r e is)

    -- a call that is lent a `&`: it is Copy, so its holder keeps what it owns, and has the tokens back
    pub calls_lent : K → FmC 𝓤 H 𝓛.laws C → {rest : Body} → Triple 𝓤 (C f) (contract_of 𝓛 T c) → (tokens own : Item 𝓤) → ent 𝓤 (mean 𝓛 own) (sep 𝓤 (mean 𝓛 own) (mean 𝓛 own))
        → ent 𝓤 (sep 𝓤 (mean 𝓛 tokens) (mean 𝓛 own)) ((contract_of 𝓛 T c).pre y) → ent 𝓤 Tokens (mean 𝓛 tokens) → Opds K 𝓛 (raw ((contract_of 𝓛 T c).pre y) ∷ own ∷ Γ) E xs ((contract_of 𝓛 T c).args y)
        → (φ : Result.Denot → Type 0) → Says (λ r ws. φ r) → (vals : Result.Denot → List Val) → Tells Result (Is Result) vals
        → ((r : Result.Denot) → φ r → Is Result r (only (vals r) ∷ []) → Seq K 𝓛 (‵ (Result.own_val r (only (vals r) ∷ [])) ∷ tokens ∷ own ∷ Γ) (lands C Λ E d (only (vals r)) rest q))
        → Seq K 𝓛 (tokens ∷ own ∷ Γ) (runs C Λ E (seq (call f xs d) rest) q)
    calls_lent t fm known tokens own twice goes back ops φ says vals tells k =
        move t (1 ∷ []) $ use1 𝓛 (own ⊛ own) twice $ split t $ move t (2 ∷ 0 ∷ []) $ use2 𝓛 (raw ((contract_of 𝓛 T c).pre y)) goes $
        calls_with t fm known ops (λ r ws. φ r) says vals tells (λ r ws e is. move t (2 ∷ []) $ drop t $ move t (1 ∷ []) $ use1 𝓛 tokens back $ move t (1 ∷ []) $ k r e is)

-- at an exit of which the contract says nothing
pub unsaid : {M : Type 1} {𝓤 : Ura M} {𝓛 : Logic 𝓤} {K : Type 0} {Γ : List (Item 𝓤)} → K → {P : SProp 𝓤} → Step K 𝓛 Γ (prop P) Γ (prop (sep 𝓤 P (emp 𝓤)))
unsaid {𝓤 = 𝓤} t {P} = suffices t P (via 𝓤 (sep 𝓤 (emp 𝓤) P) (emp∗ 𝓤 P) (comm∗ 𝓤 (emp 𝓤) P))

-- a loop that counts up to n: At i is what holds where i turns are done
module _ {M : Type 1} {𝓤 : Ura M} (𝓛 : Logic 𝓤) (𝓣 : Tables 𝓤 𝓛.H) (E : Env 𝓤 𝓛.H) (turn : Body) (Left : Out → SProp 𝓤) (n : ℕ) (At : ℕ → SProp 𝓤)
    (more : (i : ℕ) (X : SProp 𝓤) → i < n → ent 𝓤 (At (i + 1)) X → ent 𝓤 (At i) (Wp 𝓤 𝓛.H 𝓣.C 𝓣.Λ E turn (after_turn 𝓤 𝓛.H X Left))) (ends : (X : SProp 𝓤) → ent 𝓤 (At n) (Wp 𝓤 𝓛.H 𝓣.C 𝓣.Λ E turn (after_turn 𝓤 𝓛.H X Left))) where
  open 𝓛 use {H}

  abbrev Inv : ℕ → SProp 𝓤
  Inv t = ex 𝓤 (λ (i : ℕ). guard 𝓤 (t + i ≡ n) (At i))

  abbrev Below : ℕ → SProp 𝓤
  Below t = ex 𝓤 (λ (t' : ℕ). guard 𝓤 (t' < t) (Inv t'))

  into : (t i : ℕ) → t + i ≡ n → ent 𝓤 (At i) (Inv t)
  into t i e = via 𝓤 (guard 𝓤 (t + i ≡ n) (At i)) (guard_i 𝓤 (t + i ≡ n) (At i) e) (ex_i 𝓤 (λ (j : ℕ). guard 𝓤 (t + j ≡ n) (At j)) i)

  turn_at : (t i : ℕ) → t + i ≡ n → ent 𝓤 (At i) (Wp 𝓤 H 𝓣.C 𝓣.Λ E turn (after_turn 𝓤 H (Below t) Left))
  turn_at zero i e = subst (λ (j : ℕ). ent 𝓤 (At j) (Wp 𝓤 H 𝓣.C 𝓣.Λ E turn (after_turn 𝓤 H (Below zero) Left))) {x = n} {y = i} (omega arith) (ends (Below zero))
  turn_at (suc t) i e =
      more i (Below (suc t)) (omega arith)
      (via 𝓤 (Inv t) (into t (i + 1) (omega arith)) (via 𝓤 (guard 𝓤 (t < suc t) (Inv t)) (guard_i 𝓤 (t < suc t) (Inv t) (omega arith)) (ex_i 𝓤 (λ (t' : ℕ). guard 𝓤 (t' < suc t) (Inv t')) t)))

  pub counts : ent 𝓤 (At 0) (Wp 𝓤 H 𝓣.C 𝓣.Λ E (loop turn) Left)
  counts =
      via 𝓤 (Inv n) (into n 0 (omega arith))
      (loop_rule 𝓤 H 𝓛.laws 𝓣 ◌<◌ lt-wf_rel.wf E turn Left Inv (λ t. ex_e 𝓤 (λ (i : ℕ). guard 𝓤 (t + i ≡ n) (At i)) (λ i. guard_e 𝓤 (t + i ≡ n) (At i) (λ e. turn_at t i e))) n)

module _ {M : Type 1} {𝓤 : Ura M} (𝓛 : Logic 𝓤) (𝓜 : Model 𝓤 𝓛.H) (𝓡 : Running 𝓤 𝓛.H 𝓜) (γ : routine.Env) where
  open 𝓛 use {H}

  abbrev pub calls_of : Calls 𝓤 H
  calls_of = (tables 𝓤 H 𝓜 𝓡 γ).C

  abbrev pub loops_of : Loops 𝓤 H
  loops_of = (tables 𝓤 H 𝓜 𝓡 γ).Λ

  pub framed : FmC 𝓤 H 𝓛.laws calls_of
  unfolding tables_of
  framed = fm_of 𝓤 H 𝓛.laws (tables_of 𝓤 H 𝓜 (tables 𝓤 H 𝓜 𝓡 γ))

  -- a function whose MIR walks to the end meets its contract
  pub meets : (k : Callee) (e : Fn) → Closed 𝓤 H calls_of loops_of k e → (T : Ended) (hs : Stays T.signature.params T.kept) (c : Clauses 𝓤 T)
      → AllGo 𝓛 T.signature.lifetimes T.signature.params T.kept hs → Walks 𝓛 T hs (WpFn 𝓤 H calls_of loops_of e) c → Triple 𝓤 (calls_of k) (contract_of 𝓛 T c)
  unfolding tables_of
  meets k e closed T hs c gs walks =
      entered 𝓤 H (contract_of 𝓛 T c) calls_of loops_of k e closed
      (walk_Meets 𝓛 T hs gs c (WpFn 𝓤 H calls_of loops_of e) (WpFn-mono 𝓤 H 𝓛.laws (tables_of 𝓤 H 𝓜 (tables 𝓤 H 𝓜 𝓡 γ)) e) walks)

  pub counting : (E : Env 𝓤 H) (turn : Body) (Left : Out → SProp 𝓤) (n : ℕ) (At : ℕ → SProp 𝓤) → ((i : ℕ) (X : SProp 𝓤) → i < n → ent 𝓤 (At (i + 1)) X → ent 𝓤 (At i) (Wp 𝓤 H calls_of loops_of E turn (after_turn 𝓤 H X Left)))
      → ((X : SProp 𝓤) → ent 𝓤 (At n) (Wp 𝓤 H calls_of loops_of E turn (after_turn 𝓤 H X Left))) → ent 𝓤 (At 0) (Wp 𝓤 H calls_of loops_of E (loop turn) Left)
  unfolding tables_of
  counting = counts 𝓛 (tables_of 𝓤 H 𝓜 (tables 𝓤 H 𝓜 𝓡 γ))
