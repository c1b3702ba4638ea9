use Rattle.std.proofs.Common.{Ok, Err, subst, inl, inr}
use Rattle.std.proofs.lemmas.Result.{err_from_is_err_and}
use Rattle.serde_json.specs.View as sj
use Rattle.dynamo_value.specs.Kind.{fault_of}
use Rattle.dynamo_value.specs.View as av
use Rattle.dynamo_de.specs.Source.{attribute}
use Rattle.serde_dynamo.proofs.ReadBack.{conforming, passes, passes_always, writes_always, wrote, permitted, refused, keeps, not_refused, itself}
use Rattle.serde_dynamo.proofs.rereading.reread.Goals as goal

-- ---- writing is refused

pub returns-in_err-written-clause-nearly : goal.returns-in_err-written-clause-nearly
returns-in_err-written-clause-nearly g c n =
    let handed_on = err_from_is_err_and c.from_residual.result c.from_residual.ensures.1 in
    rw (handed_on.1, handed_on.2) (writes_always g.T.Shaped.about.shape (g.T.Serialize.tells c.args.value.now) c.in_err-written.field-0.0 n (conforming g.T.Shaped.about g.T.Serialize.tells g.met.T.Shaped.as_told c.args.value.now c.conforms.ensures) c.in_err-written.ensures)

pub returns-in_err-written-clause-clear : goal.returns-in_err-written-clause-clear
returns-in_err-written-clause-clear g c clear =
    let handed_on = err_from_is_err_and c.from_residual.result c.from_residual.ensures.1 in
    rw (handed_on.1, handed_on.2) (writes_always g.T.Shaped.about.shape (g.T.Serialize.tells c.args.value.now) c.in_err-written.field-0.0 clear.nearly (conforming g.T.Shaped.about g.T.Serialize.tells g.met.T.Shaped.as_told c.args.value.now c.conforms.ensures) c.in_err-written.ensures)

-- ---- reading the JSON value lacks memory

pub returns-in_err-passed-clause-err : goal.returns-in_err-passed-clause-err
returns-in_err-passed-clause-err g c =
    let handed_on = err_from_is_err_and c.from_residual-in_err-passed.result c.from_residual-in_err-passed.ensures.1 in
    rw (handed_on.1, handed_on.2) (inl (passes_always (sj.view c.in_ok-json.json) (av.view c.in_ok-written.written) (fault_of c.in_err-passed.field-0.0) c.in_ok-json.ensures.bytes c.in_ok-json.ensures.json c.in_err-passed.ensures.err))

pub returns-in_err-passed-clause-nearly : goal.returns-in_err-passed-clause-nearly
returns-in_err-passed-clause-nearly g c n =
    let handed_on = err_from_is_err_and c.from_residual-in_err-passed.result c.from_residual-in_err-passed.ensures.1 in
    rw (handed_on.1, handed_on.2) (passes_always (sj.view c.in_ok-json.json) (av.view c.in_ok-written.written) (fault_of c.in_err-passed.field-0.0) c.in_ok-json.ensures.bytes c.in_ok-json.ensures.json c.in_err-passed.ensures.err)

pub returns-in_err-passed-clause-clear : goal.returns-in_err-passed-clause-clear
returns-in_err-passed-clause-clear g c clear =
    let handed_on = err_from_is_err_and c.from_residual-in_err-passed.result c.from_residual-in_err-passed.ensures.1 in
    rw (handed_on.1, handed_on.2) (passes_always (sj.view c.in_ok-json.json) (av.view c.in_ok-written.written) (fault_of c.in_err-passed.field-0.0) c.in_ok-json.ensures.bytes c.in_ok-json.ensures.json c.in_err-passed.ensures.err)

-- ---- reading refuses

pub returns-in_err-reread-clause-err : goal.returns-in_err-reread-clause-err
returns-in_err-reread-clause-err g c =
    let handed_on = err_from_is_err_and c.from_residual-in_err-reread.result c.from_residual-in_err-reread.ensures.1 in
    let same = passes (sj.view c.in_ok-json.json) (av.view c.in_ok-written.written) (av.view c.in_ok-passed.passed) c.in_ok-json.ensures.bytes c.in_ok-json.ensures.json c.in_ok-passed.ensures.read in
    let f = fault_of c.in_err-reread.field-0.0 in
    rw (handed_on.1, handed_on.2) (elim c.in_err-reread.ensures [
      | inl lacks ↦ inl lacks
      | inr reads ↦ inr (inr (av.view c.in_ok-written.written, (wrote (g.T.Serialize.tells c.args.value.now) c.in_ok-written.written c.in_ok-written.ensures), refused g.T.Shaped.about g.T.Serialize.tells g.met.T.Shaped.as_told g.T.Deserialize.reads g.met.T.Shaped.reads_by_shape (attribute (av.view c.in_ok-written.written)) f (subst (λ a. g.T.Deserialize.reads (attribute a) (Err f)) same reads)))
    ])

pub returns-in_err-reread-clause-nearly : goal.returns-in_err-reread-clause-nearly
returns-in_err-reread-clause-nearly g c n =
    let handed_on = err_from_is_err_and c.from_residual-in_err-reread.result c.from_residual-in_err-reread.ensures.1 in
    let same = passes (sj.view c.in_ok-json.json) (av.view c.in_ok-written.written) (av.view c.in_ok-passed.passed) c.in_ok-json.ensures.bytes c.in_ok-json.ensures.json c.in_ok-passed.ensures.read in
    let f = fault_of c.in_err-reread.field-0.0 in
    rw (handed_on.1, handed_on.2) (elim c.in_err-reread.ensures [
      | inl lacks ↦ lacks
      | inr reads ↦ absurd (not_refused g.T.Shaped.about g.T.Serialize.tells g.met.T.Shaped.as_told g.T.Deserialize.reads g.met.T.Shaped.reads_by_shape c.args.value.now (av.view c.in_ok-written.written) f n c.conforms.ensures (wrote (g.T.Serialize.tells c.args.value.now) c.in_ok-written.written c.in_ok-written.ensures) (subst (λ a. g.T.Deserialize.reads (attribute a) (Err f)) same reads))
    ])

pub returns-in_err-reread-clause-clear : goal.returns-in_err-reread-clause-clear
returns-in_err-reread-clause-clear g c clear =
    let handed_on = err_from_is_err_and c.from_residual-in_err-reread.result c.from_residual-in_err-reread.ensures.1 in
    let same = passes (sj.view c.in_ok-json.json) (av.view c.in_ok-written.written) (av.view c.in_ok-passed.passed) c.in_ok-json.ensures.bytes c.in_ok-json.ensures.json c.in_ok-passed.ensures.read in
    let f = fault_of c.in_err-reread.field-0.0 in
    rw (handed_on.1, handed_on.2) (elim c.in_err-reread.ensures [
      | inl lacks ↦ lacks
      | inr reads ↦ absurd (not_refused g.T.Shaped.about g.T.Serialize.tells g.met.T.Shaped.as_told g.T.Deserialize.reads g.met.T.Shaped.reads_by_shape c.args.value.now (av.view c.in_ok-written.written) f clear.nearly c.conforms.ensures (wrote (g.T.Serialize.tells c.args.value.now) c.in_ok-written.written c.in_ok-written.ensures) (subst (λ a. g.T.Deserialize.reads (attribute a) (Err f)) same reads))
    ])

-- ---- it is read

pub returns-clause-read : goal.returns-clause-read
returns-clause-read g c =
    let same = passes (sj.view c.in_ok-json.json) (av.view c.in_ok-written.written) (av.view c.in_ok-passed.passed) c.in_ok-json.ensures.bytes c.in_ok-json.ensures.json c.in_ok-passed.ensures.read in
    permitted g.T.Shaped.about g.T.Serialize.tells g.met.T.Shaped.as_told g.T.Deserialize.reads g.met.T.Shaped.reads_by_shape (attribute (av.view c.in_ok-written.written)) c.in_ok-reread.reread c.conforms-2.ensures (subst (λ a. g.T.Deserialize.reads (attribute a) (Ok c.in_ok-reread.reread)) same c.in_ok-reread.ensures)

pub returns-clause-nearly : goal.returns-clause-nearly
returns-clause-nearly g c n =
    let same = passes (sj.view c.in_ok-json.json) (av.view c.in_ok-written.written) (av.view c.in_ok-passed.passed) c.in_ok-json.ensures.bytes c.in_ok-json.ensures.json c.in_ok-passed.ensures.read in
    keeps g.T.Shaped.about g.T.Serialize.tells g.met.T.Shaped.as_told g.T.Deserialize.reads g.met.T.Shaped.reads_by_shape c.args.value.now c.in_ok-reread.reread (av.view c.in_ok-written.written) n c.conforms.ensures (wrote (g.T.Serialize.tells c.args.value.now) c.in_ok-written.written c.in_ok-written.ensures) c.conforms-2.ensures (subst (λ a. g.T.Deserialize.reads (attribute a) (Ok c.in_ok-reread.reread)) same c.in_ok-reread.ensures)

pub returns-clause-clear : goal.returns-clause-clear
returns-clause-clear g c clear =
    let same = passes (sj.view c.in_ok-json.json) (av.view c.in_ok-written.written) (av.view c.in_ok-passed.passed) c.in_ok-json.ensures.bytes c.in_ok-json.ensures.json c.in_ok-passed.ensures.read in
    itself g.T.Shaped.about g.T.Serialize.tells g.met.T.Shaped.as_told g.T.Deserialize.reads g.met.T.Shaped.reads_by_shape c.args.value.now c.in_ok-reread.reread (av.view c.in_ok-written.written) clear c.conforms.ensures (wrote (g.T.Serialize.tells c.args.value.now) c.in_ok-written.written c.in_ok-written.ensures) c.conforms-2.ensures (subst (λ a. g.T.Deserialize.reads (attribute a) (Ok c.in_ok-reread.reread)) same c.in_ok-reread.ensures)
