use Rattle.std.proofs.Common.{◌≡◌, ◌<◌, ap, ◌∙◌, length, arith}
use Rattle.std.proofs.lemmas.List.{get_or_read}
use Rattle.bdd_core.specs.Diagram.{no_node}
use Rattle.bdd_core.specs.Chains.{bucket_of, node_of}
use Rattle.bdd_core.proofs.ChainLemmas.{nodes-set, link-reads}
use Rattle.bdd_core.proofs.unique.chains.link.Goals as goal

pub returns-clause-nodes : goal.returns-clause-nodes
returns-clause-nodes c =
    nodes-set c.args.entries.now.items c.args.place (record { node = c.index.result.now.node; next = c.index-next.result.now }) c.requires.within
    (ap node_of (get_or_read c.args.entries.now.items c.args.place c.index.result.now c.requires.within c.index.ensures (record { node = no_node; next = 0 })))

pub returns-clause-linked : goal.returns-clause-linked
returns-clause-linked c =
    let buckets : c.len.result ≡ length c.args.heads.now.items = omega (arith, c.len.ensures) in
    let fits : c.bucket-bucket.result < length c.args.heads.now.items = omega (arith, c.bucket-bucket.ensures.within) in
    link-reads c.args.entries.now.items c.args.heads.now.items c.args.place c.bucket-bucket.result c.index-next.result.now c.index.result.now.node c.requires.within fits
    (ap node_of (get_or_read c.args.entries.now.items c.args.place c.index.result.now c.requires.within c.index.ensures (record { node = no_node; next = 0 })))
    (c.bucket-bucket.ensures.is ∙ ap (λ n. bucket_of n c.index.result.now.node) buckets)
    (get_or_read c.args.heads.now.items c.bucket-bucket.result c.index-next.result.now fits c.index-next.ensures 0)
    c.requires.linked
