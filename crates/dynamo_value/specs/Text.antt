-- The bytes of a borrowed text.
use Rattle.std.specs.Prelude.{ℕ, List}
use Rattle.dynamo_value.specs.declared.text.Text.{Text}

abbrev pub lent_text : Text → List ℕ
lent_text t = t.text.now
