use Rattle.std.proofs.Common.{◌≡◌, ◌<◌, None, length, map, string_bytes, refl, sym, ◌∙◌, arith}
use Rattle.dynamo_json.proofs.Common.{err_from_is_err_and, after_end_array, string, TextsAreNext}
use Rattle.json.proofs.Grammar.{after_end_array-shorter}
use Rattle.dynamo_json.proofs.Followed.{stops, text_next, texts_left}
use Rattle.dynamo_json.proofs.InText.{string_stands, items_next, items_done, pushed}
use Rattle.dynamo_json.proofs.from_text.strings.Goals as goal

pub strings-preserved : goal.strings-preserved
strings-preserved c =
    let l = c.strings in
    let going : (after_end_array l.reader ≡ None) × (c.take_end_array.new.self ≡ l.reader) = grind arith in
    let first = sym going.1 ∙ c.in_ok-text.ensures.ok in
    let text = c.in_ok-text.text.now in
    let less : length c.string.new.reader < length l.reader = rw first (omega arith) in
    let old = map string_bytes l.strings.items in
    let texts = pushed string_bytes l.strings.items c.push.new.self.items c.in_ok-from_str.field-0 text c.in_ok-push.ensures.items c.in_ok-from_str.ensures.ok in
    record {
      left = λ depth. items_next depth c.args.reader.now (map string old) l.reader c.string.new.reader (string text) _ (l.invariant.left depth) going.0
          (string_stands depth l.reader c.string.new.reader text first) less (pushed string old (map string_bytes c.push.new.self.items) text (string text) texts refl);
      next = λ h. texts_left l.reader c.string.new.reader text (l.invariant.next h) first;
    }

pub returns-clause-strings : goal.returns-clause-strings
returns-clause-strings c depth =
    let l = c.strings in
    rw c.list.ensures (items_done depth c.args.reader.now (map string (map string_bytes l.strings.items)) l.reader c.take_end_array.new.self (l.invariant.left depth) (grind arith))

pub returns-clause-shorter : goal.returns-clause-shorter
returns-clause-shorter c =
    let l = c.strings in
    omega (arith, (l.invariant.left 0).2, after_end_array-shorter l.reader c.take_end_array.new.self (grind arith))

pub returns-in_err-text-clause-follows : goal.returns-in_err-text-clause-follows
returns-in_err-text-clause-follows c =
    let l = c.strings in
    let going : (after_end_array l.reader ≡ None) × (c.take_end_array.new.self ≡ l.reader) = grind arith in
    let failed = err_from_is_err_and c.from_residual.result c.from_residual.ensures.1 in
    stops c.from_residual.result failed.0 (TextsAreNext l.reader) (TextsAreNext c.args.reader.now) failed.1 l.invariant.next
    (λ e h. text_next l.reader h going.0 (λ text rest is. c.in_err-text.ensures.err text rest (going.1 ∙ is)))
