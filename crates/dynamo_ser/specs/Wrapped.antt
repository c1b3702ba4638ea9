-- The datum of what is around one content.
use Rattle.dynamo_ser.specs.Datum as datum
use Rattle.dynamo_ser.specs.Datum.{Datum, variant}
use Rattle.dynamo_ser.specs.declared.serializer.Wrapper.{Wrapper}

abbrev pub wrapped : Wrapper → Datum → Datum
wrapped Wrapper.Option content = datum.some content
wrapped (Wrapper.NewtypeStruct name) content = datum.newtype_struct name.now content
wrapped (Wrapper.NewtypeVariant name index variant_name) content = datum.newtype_variant (variant name.now index variant_name.now) content
