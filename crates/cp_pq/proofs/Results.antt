-- Facts of results.
use Rattle.std.proofs.Common.{Result, Ok, Err}
use Rattle.std.specs.Result.{IfErr, IfOk}

-- what follows from a fact of the value of a result
pub IfOk-map : {A E : Type 0} (S T : A → Type 0) → ((a : A) → S a → T a) → (r : Result A E) → IfOk r S → IfOk r T
IfOk-map S T f (Ok a) h = f a h
IfOk-map S T f (Err e) h = tt

-- what follows from a fact of the error of a result
pub IfErr-map : {A E : Type 0} (S T : E → Type 0) → ((e : E) → S e → T e) → (r : Result A E) → IfErr r S → IfErr r T
IfErr-map S T f (Ok a) h = tt
IfErr-map S T f (Err e) h = f e h
