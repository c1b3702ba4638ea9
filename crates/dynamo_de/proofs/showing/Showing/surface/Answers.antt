use Rattle.std.proofs.Common.{ap}
use Rattle.dynamo_de.specs.Shows.{seen}
use Rattle.dynamo_de.proofs.showing.Showing.surface.Goals as goal

pub returns-in-Some : goal.returns-in-Some
returns-in-Some g c source elements entries variants = (source c.in-Some.field-0, ap (seen source elements entries variants) c.in-Some.is)

pub returns-in-Newtype : goal.returns-in-Newtype
returns-in-Newtype g c source elements entries variants = (source c.in-Newtype.field-0, ap (seen source elements entries variants) c.in-Newtype.is)

pub returns-in-Sequence : goal.returns-in-Sequence
returns-in-Sequence g c source elements entries variants = (elements c.in-Sequence.field-0, ap (seen source elements entries variants) c.in-Sequence.is)

pub returns-in-Map : goal.returns-in-Map
returns-in-Map g c source elements entries variants = (entries c.in-Map.field-0, ap (seen source elements entries variants) c.in-Map.is)

pub returns : goal.returns
returns g c source elements entries variants = (variants c.in-Enum.field-0, ap (seen source elements entries variants) c.in-Enum.is)
