use Rattle.table_keys.proofs.Normals.{both_positive, both_negative, negative_first, negative_last}
use Rattle.table_keys.proofs.number.NumberOrd.cmp.Goals as goal

pub returns-in-true-true : goal.returns-in-true-true
returns-in-true-true c =
    let both = both_negative c.self.inside c.other.inside _ _ c.self.invariant c.other.invariant c.self.view_is c.other.view_is c.in-true-true.is-0 c.in-true-true.is-1 in cc

pub returns-in-true-false : goal.returns-in-true-false
returns-in-true-false c =
    negative_first c.self.inside c.other.inside _ _ c.self.invariant c.other.invariant c.self.view_is c.other.view_is c.in-true-false.is-0 c.in-true-false.is-1

pub returns-in-false-true : goal.returns-in-false-true
returns-in-false-true c =
    negative_last c.self.inside c.other.inside _ _ c.self.invariant c.other.invariant c.self.view_is c.other.view_is c.in-false-true.is-0 c.in-false-true.is-1

pub returns-in-false-false : goal.returns-in-false-false
returns-in-false-false c =
    let both = both_positive c.self.inside c.other.inside _ _ c.self.invariant c.other.invariant c.self.view_is c.other.view_is c.in-false-false.is-0 c.in-false-false.is-1 in cc
