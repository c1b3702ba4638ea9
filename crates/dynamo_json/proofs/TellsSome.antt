-- Each attribute value tells a datum: that whose pairs come in the order of their keys, for one.
use Rattle.std.proofs.Common.{refl, inl}
use Rattle.dynamo_json.proofs.Common.{Av, Datum, ItemTellsSome, Tells, ElementsTell, MembersTell}
use Rattle.dynamo_value.specs.Av as av
use Rattle.dynamo_value.specs.Prefix as prefix
use Rattle.dynamo_ser.specs.Datum as datum
use Rattle.dynamo_ser.specs.AttributeDatum.{under}

mutual
  pub tells_some : (a : Av) → (d : Datum) × Tells a d
  tells_some (av.N text) = (_, refl)
  tells_some (av.S text) = (_, refl)
  tells_some (av.Boolean b) = (_, refl)
  tells_some (av.B bytes) = (_, refl)
  tells_some (av.Null b) = (_, refl)
  tells_some (av.M ms) = let told = members_some ms in (under prefix.M (datum.map told.0), (told.0, refl, told.1))
  tells_some (av.L as') = let told = elements_some as' in (under prefix.L (datum.seq told.0), (told.0, refl, told.1))
  tells_some (av.Ss texts) = (_, refl)
  tells_some (av.Ns texts) = (_, refl)
  tells_some (av.Bs blobs) = (_, refl)

  elements_some : (as' : av.Elements) → (ds : datum.Elements) × ElementsTell as' ds
  elements_some av.no_elements = (_, refl)
  elements_some (av.element a as') =
      let first = tells_some a in
      let rest = elements_some as' in
      (datum.element first.0 rest.0, (first.0, rest.0, refl, first.1, rest.1))

  members_some : (ms : av.Members) → (ps : datum.Pairs) × MembersTell ms ps
  members_some av.no_members = (_, refl)
  members_some (av.member key a ms) =
      let first = tells_some a in
      let rest = members_some ms in
      (datum.pair (datum.string key) first.0 rest.0, (first.0, rest.0, inl (refl, refl, refl), first.1, rest.1))

pub item_tells_some : ItemTellsSome
item_tells_some ms = let told = members_some ms in (datum.map told.0, (told.0, refl, told.1))
