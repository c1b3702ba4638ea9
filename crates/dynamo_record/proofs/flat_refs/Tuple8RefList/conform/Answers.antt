use Rattle.dynamo_record.proofs.flat_refs.Tuple8RefList.conform.Goals as goal

pub returns : goal.returns
returns g c = λ ss ds h. c.conform.ensures _ _ (c.conform-2.ensures _ _ (c.conform-3.ensures _ _ (c.conform-4.ensures _ _ (c.conform-5.ensures _ _ (c.conform-6.ensures _ _ (c.conform-7.ensures _ _ (c.conform-8.ensures _ _ h)))))))
