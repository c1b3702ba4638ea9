use Rattle.std.proofs.Common.{◌≡◌, map, drop}
use Rattle.dynamo_record.proofs.Common.{own_name}
use Rattle.dynamo_record.proofs.names.own_name.Given as goal

-- none of the other names before is the name
abbrev pub invariant-loop-alias : goal.invariant-loop-alias
invariant-loop-alias l = own_name (map (λ a. (a.0.now, a.1.now)) l.fn.aliases) l.fn.name ≡ own_name (map (λ a. (a.0.now, a.1.now)) (drop l.alias-index l.fn.aliases)) l.fn.name
