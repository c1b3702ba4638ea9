use Rattle.std.proofs.Common.{◌≡◌, ◌++◌, string_bytes, encode_utf8, sym, ap, ap₂, ◌∙◌}
use Rattle.std.specs.Char.{to_ascii_lowercase as lower}
use Rattle.std.specs.Str.Iter.{chars_rest}
use Rattle.derive_declarations.specs.Renamed.{camel}
use Rattle.derive_declarations.proofs.Characters.{camel_char}
use Rattle.derive_declarations.proofs.rename.camel.Goals as goal

pub returns : goal.returns
returns c =
    let first = c.in-Some.first in
    let rest = chars_rest c.next.new.self in
    let whole : c.args.pascal.now ≡ encode_utf8 first ++ rest =
    sym c.chars-chars.ensures.rest ∙ c.in-Some.ensures.steps.0 in
    let pushed : string_bytes c.push.new.self ≡ encode_utf8 (lower first) =
    c.in_ok-push.ensures.bytes
    ∙ ap₂ (λ xs d. xs ++ encode_utf8 d) c.new-name.ensures.bytes c.to_ascii_lowercase.ensures.value in
    c.in_ok-push_str.ensures.bytes ∙ ap₂ (λ xs ys. xs ++ ys) pushed c.as_str.ensures
    ∙ sym (camel_char first rest) ∙ ap camel (sym whole)
