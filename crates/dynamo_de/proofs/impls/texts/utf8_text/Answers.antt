use Rattle.std.proofs.Common.{rules, ◌≡◌, true, subst}
use Rattle.std.specs.Prelude.{string_bytes}
use Rattle.std.specs.Str.{IsUtf8, is_utf8}
use Rattle.std.proofs.lemmas.Str.{IsUtf8-string_bytes}
use Rattle.dynamo_de.proofs.Chars.{utf8_told}
use Rattle.dynamo_de.proofs.impls.texts.utf8_text.Goals as goal

pub returns-in-Ok : goal.returns-in-Ok
returns-in-Ok g c =
    let same : string_bytes c.in-Ok.text ≡ c.args.v.items = search rules in
    let told : is_utf8 c.args.v.items ≡ true = utf8_told c.args.v.items (subst IsUtf8 same (IsUtf8-string_bytes c.in-Ok.text)) in
    rw told same
