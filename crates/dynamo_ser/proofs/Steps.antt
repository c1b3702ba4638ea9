-- One step of a builder after another.
use Rattle.std.proofs.Common.{Result, Ok, Err}
use Rattle.dynamo_ser.specs.Pieces.{Keeps, TakesPiece}

module _ {B P A E U : Type 0} (gives : B → P → Result A E → Type 0) where
  -- a piece is taken after a step that holds what was held
  pub takes_after_keeps : (old mid new : B) (before : P → P) (r : Result U E) → Keeps gives old mid → TakesPiece gives mid new before r → TakesPiece gives old new before r
  takes_after_keeps old mid new before (Ok u) kept taken = λ pieces answer given. kept (before pieces) answer (taken pieces answer given)
  takes_after_keeps old mid new before (Err e) kept taken =
      (λ pieces. kept (before pieces) (Err e) (taken.0 pieces), λ pieces answer given. kept pieces answer (taken.1 pieces answer given))
