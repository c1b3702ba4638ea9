use Rattle.std.proofs.Common.{◌≡◌, ◌++◌, drop, map}
use Rattle.dynamo_json.proofs.Common.{base64_text}
use Rattle.dynamo_json.proofs.Rest.{texts_left}
use Rattle.dynamo_json.proofs.json_text.Printer.blobs.Given as goal

abbrev pub invariant-loop-bytes : goal.invariant-loop-bytes
invariant-loop-bytes l =
    record {
      tokens : l.self.out.tokens ++ texts_left (map base64_text (map (λ b. b.items) (drop l.bytes-index l.bytes-items))) ≡ l.initial.self.out.tokens ++ texts_left (map base64_text (map (λ b. b.items) l.bytes-items));
      before : l.self.out.before ≡ l.initial.self.out.before;
    }
