-- The children of a body, by its list.
use Rattle.std.proofs.Common.{◌≡◌, List}
use Rattle.rsml_syntax.specs.declared.syntax.StateDecl.{StateDecl}
use Rattle.rsml_syntax.specs.declared.syntax.Bus.{Bus}
use Rattle.rsml_syntax.specs.declared.syntax.Transition.{Transition}
use Rattle.rsml_syntax.specs.declared.syntax.Body.{One, All, items_hidden-the_row-StateDecl-0}
use Rattle.rsml_syntax.specs.text.Names.{Name}
use Rattle.rsml_syntax.specs.grammar.Parts.{children_of}

pub children_of_all : (cs : List StateDecl) → children_of (All cs) ≡ cs
children_of_all cs = items_hidden-the_row-StateDecl-0 cs

pub children_of_one : (n : Name) (cs : List StateDecl) (bs : List Bus) (ts : List Transition) → children_of (One n cs bs ts) ≡ cs
children_of_one n cs bs ts = items_hidden-the_row-StateDecl-0 cs
