use Rattle.state_tree.proofs.Lists.{get_within}
use Rattle.rsml_meaning.specs.Instances.{components}
use Rattle.gap_texts.proofs.choices.put_place.Goals as goal

pub children-children-requires : goal.children-children-requires
children-children-requires g c = get_within (components c.args.tree.now) c.args.component c.requires.0 c.requires.1
