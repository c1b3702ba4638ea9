use Rattle.std.proofs.Common.{string_bytes, refl, subst}
use Rattle.std.specs.Prelude.{◌≡◌, true}
use Rattle.std.specs.Str.{is_utf8}
use Rattle.std.proofs.lemmas.Str.{is_utf8-from_IsUtf8}
use Rattle.dynamo_record.proofs.impls.texts.StringShaped.conforms.Goals as goal

pub returns : goal.returns
returns c = (string_bytes c.args.self.now, refl, subst (λ t. is_utf8 t ≡ true) c.as_str-text.ensures.value (is_utf8-from_IsUtf8 _ c.as_str-text.utf8))
