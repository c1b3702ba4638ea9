use Rattle.std.proofs.Common.{rules, ◌≡◌, ◌<◌, length, Ok, Err, take, [], arith, add-one, refl, length-take}
use Rattle.std.proofs.lemmas.Result.{err_from_is_err_and}
use Rattle.tool_commands.specs.Reading.{calls, given}
use Rattle.tool_commands.proofs.Leads.{leads_at_first, ends, fails, lacks_memory, used_up, leads_past_interruption, leads_on}
use Rattle.tool_commands.proofs.read_to_end.read_to_end.Goals as goal
use Rattle.tool_commands.proofs.read_to_end.read_to_end.Goals.{in-Ok+in_ok-extend_from_slice-in-Ok, in-Err}

pub loop-init : goal.loop-init
loop-init g c = record {
  room = search rules;
  leads = rw c.new-bytes.ensures.items (leads_at_first g.R.Input.read_gives calls c.args.reader.now);
}

pub returns-in-Ok-eq0 : goal.returns-in-Ok-eq0
returns-in-Ok-eq0 g c =
    let none : given c.read.new.buf c.read.result ≡ Ok [] = rw (c.in-Ok-eq0.is, c.in-Ok-eq0.field-0-test) refl in
    ends c.loop.invariant.leads (omega arith) c.loop.invariant.room c.read.ensures.gives none

pub returns-in_err-extend_from_slice-in-Ok : goal.returns-in_err-extend_from_slice-in-Ok
returns-in_err-extend_from_slice-in-Ok g c =
    let chunk = take c.in-Ok.n c.read.new.buf in
    let gave : g.R.Input.read_gives c.loop.reader (length c.loop.room) (Ok chunk) c.read.new.self = rw c.in-Ok.is at c.read.ensures.gives in
    let some : 0 < length chunk = grind (arith, length-take, c.in-Ok.ensures.bound, c.in-Ok.n-test) in
    let (failure, is, lacks) = err_from_is_err_and c.from_residual.result c.from_residual.ensures.1 in
    rw (is, lacks) (lacks_memory chunk c.loop.invariant.leads (omega arith) c.loop.invariant.room gave some)

pub returns-in-Err-2 : goal.returns-in-Err-2
returns-in-Err-2 g c =
    let is : given c.read.new.buf c.read.result ≡ Err c.in-Err.error = rw c.in-Err.is refl in
    fails c.loop.invariant.leads (omega arith) c.loop.invariant.room c.read.ensures.gives is (search rules)

pub loop-preserved : goal.loop-preserved
loop-preserved g c =
    rw add-one (elim c.match-read.branch [
      | in-Ok+in_ok-extend_from_slice-in-Ok w ↦
          let chunk = take w.in-Ok.n c.read.new.buf in
          let gave : g.R.Input.read_gives c.loop.reader (length c.loop.room) (Ok chunk) c.read.new.self = rw w.in-Ok.is at c.read.ensures.gives in
          let some : 0 < length chunk = grind (arith, length-take, w.in-Ok.ensures.bound, w.in-Ok.n-test) in
          record {
            room = omega (arith, c.read.auto.buf, c.loop.invariant.room);
            leads = rw (w.bytes-is, w.in_ok-extend_from_slice-in-Ok.ensures.items) (leads_on chunk c.loop.invariant.leads c.loop.invariant.room gave some);
          }
      | in-Err w ↦
          let is : given c.read.new.buf c.read.result ≡ Err w.in-Err.error = rw w.in-Err.is refl in
          record {
            room = omega (arith, c.read.auto.buf, c.loop.invariant.room);
            leads = rw w.bytes-is (leads_past_interruption c.loop.invariant.leads c.loop.invariant.room c.read.ensures.gives is (search rules));
          }
    ])

pub returns : goal.returns
returns g c = used_up c.loop.invariant.leads (omega arith)
