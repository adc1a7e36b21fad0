-- The text of a path, step by step.
use Rattle.std.proofs.Common.{◌≡◌, [], ◌∷◌, ◌++◌, ap, append-nil, flat_map}
use Rattle.rsml_meaning.specs.Words.{Instance, Path}
use Rattle.rsml_meaning.specs.Texts.{Text, instance_text, path_text}
use Rattle.instance_texts.specs.Dotted.{dotted}

-- the text of the first step, and of each other with `.` before it
pub path_steps : (x : Instance) (xs : Path) → instance_text x ++ flat_map dotted xs ≡ path_text (x ∷ xs)
path_steps x [] = append-nil (instance_text x)
path_steps x (y ∷ ys) = ap (λ (t : Text). instance_text x ++ (46 ∷ t)) (path_steps y ys)
