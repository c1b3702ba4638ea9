use Rattle.std.proofs.Common.{◌∙◌}
use Rattle.table_keys.proofs.Clones.{same_bytes, same_number, same_text}
use Rattle.table_keys.proofs.key.KeyValueClone.clone.Goals.{in-S+in_ok-clone-in-S, in-N+in_ok-clone-in-N, in-B+in_ok-from_slice-in-B}
use Rattle.table_keys.proofs.key.KeyValueClone.clone.Goals as goal

pub returns : goal.returns
returns c = record {
  cases = elim c.match-self.branch [
    | in-S+in_ok-clone-in-S w ↦ rw (w.result-is, w.in-S.is) (same_text w.in_ok-clone-in-S.field-0 w.in-S.text w.in_ok-clone-in-S.ensures.cases)
    | in-N+in_ok-clone-in-N w ↦ rw (w.result-is, w.in-N.is) (same_number w.in_ok-clone-in-N.field-0 w.in-N.number w.in_ok-clone-in-N.ensures.cases)
    | in-B+in_ok-from_slice-in-B w ↦ rw (w.result-is, w.in-B.is)
        (same_bytes w.in_ok-from_slice-in-B.field-0 w.in-B.bytes
        (w.in_ok-from_slice-in-B.ensures.items ∙ w.as_slice.ensures.value))
  ];
}
