use Rattle.bdd_core.specs.Chains.{bucket_by, bucket_of}
use Rattle.bdd_core.proofs.unique.chains.bucket.Goals as goal

pub returns-clause-is : goal.returns-clause-is
unfolding bucket_of
returns-clause-is c = λ i. bucket_by c.args.buckets c.args.node.level (c.min-less.ensures i) (c.max-more.ensures i)
