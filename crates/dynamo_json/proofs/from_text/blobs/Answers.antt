use Rattle.std.proofs.Common.{◌≡◌, ◌<◌, None, length, map, Vec, Global, ℕ, refl, sym, ◌∙◌, arith}
use Rattle.dynamo_json.proofs.Common.{err_from_is_err_and, after_end_array, string, IsBytes}
use Rattle.dynamo_json.proofs.Common.{base64_text, fault_of, BlobsAreNext}
use Rattle.json.proofs.Grammar.{after_end_array-shorter}
use Rattle.dynamo_json.proofs.Followed.{stops, stops_for_memory, BlobIsNext, blob_next, blob_begins, blob_text, blob_decodes}
use Rattle.dynamo_json.proofs.InText.{string_stands, items_next, items_done, pushed, all_and}
use Rattle.dynamo_json.proofs.from_text.blobs.Goals as goal

pub blobs-preserved : goal.blobs-preserved
blobs-preserved c =
    let l = c.blobs in
    let going : (after_end_array l.reader ≡ None) × (c.take_end_array.new.self ≡ l.reader) = grind arith in
    let first = sym going.1 ∙ c.in_ok-text.ensures.ok in
    let text = c.in_ok-text.text.now in
    let less : length c.string.new.reader < length l.reader = rw first (omega arith) in
    let blob = c.in_ok-decode.field-0 in
    let bytes = λ (b : Vec ℕ Global). b.items in
    let old = map bytes l.blobs.items in
    let new = map bytes c.push.new.self.items in
    let blobs = pushed bytes l.blobs.items c.push.new.self.items blob blob.items c.in_ok-push.ensures.items refl in
    let texts = pushed base64_text old new blob.items text blobs (sym c.in_ok-decode.ensures.exact) in
    record {
      left = λ depth. items_next depth c.args.reader.now (map string (map base64_text old)) l.reader c.string.new.reader (string text) _ (l.invariant.left depth) going.0
          (string_stands depth l.reader c.string.new.reader text first) less (pushed string (map base64_text old) (map base64_text new) text (string text) texts refl);
      bytes = rw blobs (all_and IsBytes old blob.items l.invariant.bytes c.in_ok-decode.ensures.bytes);
      next = λ h. blob_text l.reader c.string.new.reader text (blob_next l.reader (l.invariant.next h) going.0) first;
    }

pub returns-clause-blobs : goal.returns-clause-blobs
returns-clause-blobs c depth =
    let l = c.blobs in
    rw c.list.ensures (items_done depth c.args.reader.now (map string (map base64_text (map (λ (b : Vec ℕ Global). b.items) l.blobs.items))) l.reader c.take_end_array.new.self
    (l.invariant.left depth) (grind arith))

pub returns-clause-bytes : goal.returns-clause-bytes
returns-clause-bytes c = rw c.list.ensures c.blobs.invariant.bytes

pub returns-clause-shorter : goal.returns-clause-shorter
returns-clause-shorter c =
    let l = c.blobs in
    omega (arith, (l.invariant.left 0).2, after_end_array-shorter l.reader c.take_end_array.new.self (grind arith))

pub returns-in_err-text-clause-follows : goal.returns-in_err-text-clause-follows
returns-in_err-text-clause-follows c =
    let l = c.blobs in
    let going : (after_end_array l.reader ≡ None) × (c.take_end_array.new.self ≡ l.reader) = grind arith in
    let failed = err_from_is_err_and c.from_residual.result c.from_residual.ensures.1 in
    stops c.from_residual.result failed.0 (BlobIsNext l.reader) (BlobsAreNext c.args.reader.now) failed.1 (λ h. blob_next l.reader (l.invariant.next h) going.0)
    (λ e h. blob_begins l.reader h (λ text rest is. c.in_err-text.ensures.err text rest (going.1 ∙ is)))

pub returns-in_err-decode-clause-follows : goal.returns-in_err-decode-clause-follows
returns-in_err-decode-clause-follows c =
    let l = c.blobs in
    let going : (after_end_array l.reader ≡ None) × (c.take_end_array.new.self ≡ l.reader) = grind arith in
    let first = sym going.1 ∙ c.in_ok-text.ensures.ok in
    let failed = err_from_is_err_and c.from_residual-in_err-decode.result c.from_residual-in_err-decode.ensures.1 in
    stops_for_memory c.from_residual-in_err-decode.result failed.0 (BlobsAreNext c.args.reader.now) failed.1 (λ h.
    failed.2 (blob_decodes l.reader c.string.new.reader c.in_ok-text.text.now (fault_of c.in_err-decode.field-0.0)
    (blob_next l.reader (l.invariant.next h) going.0) first c.in_err-decode.ensures.err))
