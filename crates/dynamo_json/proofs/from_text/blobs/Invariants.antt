use Rattle.std.proofs.Common.{ℕ, length, map}
use Rattle.dynamo_json.proofs.Common.{AllByRecursion, IsBytes, string, base64_text, BlobsAreNext}
use Rattle.dynamo_json.proofs.InText.{ItemsLeft}
use Rattle.dynamo_json.proofs.from_text.blobs.Given as goal

abbrev pub invariant-blobs : goal.invariant-blobs
invariant-blobs l =
    let blobs = map (λ b. b.items) l.blobs.items in
    record {
      left : (depth : ℕ) → ItemsLeft depth l.initial.reader (map string (map base64_text blobs)) l.reader;
      bytes : AllByRecursion IsBytes blobs;
      next : BlobsAreNext l.initial.reader → BlobsAreNext l.reader;
    }

abbrev pub decreases-blobs : goal.decreases-blobs
decreases-blobs l = length l.reader
