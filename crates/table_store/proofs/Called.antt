-- What a call of a table ran, by what its steps ran.
use Rattle.std.proofs.Common.{◌≡◌, Bool, true, false, true≢false, Result, Ok, Err, IfErr, IsErrAnd, MatchBool, ap, subst, sym}
use Rattle.std.specs.declared.alloc.Global.{Global}
use Rattle.std.specs.declared.vec.Vec.{Vec}
use Rattle.table_store.specs.Runs.{listed}

-- the error that a `?` returns
pub is_err : {A E : Type 0} (r : Result A E) (e : E) → IsErrAnd r (λ x. x ≡ e) → r ≡ Err e
is_err (Ok _) e h = absurd h
is_err (Err x) e h = ap Err h

-- what holds of that error
pub if_err : {A E : Type 0} (P : E → Type 0) (r : Result A E) (e : E) → IsErrAnd r (λ x. x ≡ e) → P e → IfErr r P
if_err P (Ok _) e h p = absurd h
if_err P (Err x) e h p = subst P (sym h) p

-- the error that a `?` returns, in the place of a list
pub is_list_err : {A E : Type 0} (r : Result (Vec A Global) E) (e : E) → IsErrAnd r (λ x. x ≡ e) → listed r ≡ Err e
is_list_err (Ok _) e h = absurd h
is_list_err (Err x) e h = ap Err h

pub when : {A : Type 0} (B : Type 0) (b : Bool) → b ≡ true → A → MatchBool b A B
when B true is a = a
when B false is a = absurd (true≢false (sym is))

pub unless : {B : Type 0} (A : Type 0) (b : Bool) → b ≡ false → B → MatchBool b A B
unless A false is x = x
unless A true is x = absurd (true≢false is)
