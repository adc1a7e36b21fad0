-- Functions with their right sides.
use Rattle.std.proofs.Common.{◌≡◌, Bool, true, false, cond, List, [], ◌∷◌, ◌++◌, Option, Some, map, if◌then◌else◌, ap, ◌∙◌}
use Rattle.std.specs.Global.{Vec}
use Rattle.std.specs.Map.{lookup}
use Rattle.std.specs.Option.{unwrap_or}
use Rattle.std.proofs.lemmas.List.{map-append}
use Rattle.indexmap.specs.IndexMap.{insert_entry}
use Rattle.rsml_limits.specs.declared.thresholds.function.Function.{Function}
use Rattle.rsml_limits.specs.declared.thresholds.right.Right.{Right}
use Rattle.rsml_limits.specs.contracts.thresholds.function.FunctionPartialEq.TheImpl as function_eq
use Rattle.rsml_limits.specs.thresholds.Compared.{Group, same_function, with_right}
use Rattle.rsml_limits.specs.thresholds.Shown.{shown_function, shown_right, shown_group}

abbrev Entry : Type 0
Entry = Function × Vec Right

-- one more right side, at what a function has so far
put_seen : (es : List Entry) (f : Function) (r : Right) (none v : Vec Right) → none.items ≡ [] →
    v.items ≡ (unwrap_or (lookup ((function_eq.ghosts).eq f) es) none).items ++ r ∷ [] →
    map shown_group (insert_entry (function_eq.ghosts).eq es f v) ≡ with_right (map shown_group es) (shown_function f) (shown_right r)
put_seen [] f r none v empty is = ap (λ rs. (shown_function f, map shown_right rs) ∷ []) (is ∙ ap (λ rs. rs ++ r ∷ []) empty)
put_seen (e ∷ es) f r none v empty is = by (same_function (shown_function f) (shown_function e.0)) is (put_seen es f r none v empty)
  where
    by : (t : Bool) → v.items ≡ (unwrap_or (cond t (Some e.1) (lookup ((function_eq.ghosts).eq f) es)) none).items ++ r ∷ [] →
        (v.items ≡ (unwrap_or (lookup ((function_eq.ghosts).eq f) es) none).items ++ r ∷ [] →
        map shown_group (insert_entry (function_eq.ghosts).eq es f v) ≡ with_right (map shown_group es) (shown_function f) (shown_right r)) →
        map shown_group (if t then (e.0, v) ∷ es else e ∷ insert_entry (function_eq.ghosts).eq es f v)
        ≡ (if t then (shown_function e.0, map shown_right e.1.items ++ shown_right r ∷ []) ∷ map shown_group es else shown_group e ∷ with_right (map shown_group es) (shown_function f) (shown_right r))
    by true here rest = ap (λ rs. (shown_function e.0, rs) ∷ map shown_group es) (ap (map shown_right) here ∙ map-append shown_right e.1.items (r ∷ []))
    by false here rest = ap (λ gs. shown_group e ∷ gs) (rest here)

pub put_is : (es new : List Entry) (f : Function) (r : Right) (none before v : Vec Right) (found : Option (Vec Right)) (groups : List Group) → map shown_group es ≡ groups →
    none.items ≡ [] → found ≡ lookup ((function_eq.ghosts).eq f) es → before ≡ unwrap_or found none → v.items ≡ before.items ++ r ∷ [] →
    new ≡ insert_entry (function_eq.ghosts).eq es f v → map shown_group new ≡ with_right groups (shown_function f) (shown_right r)
put_is es new f r none before v found groups view empty is_found is_before is is_new =
    ap (map shown_group) is_new
    ∙ put_seen es f r none v empty (is ∙ ap (λ (w : Vec Right). w.items ++ r ∷ []) (is_before ∙ ap (λ o. unwrap_or o none) is_found))
    ∙ ap (λ gs. with_right gs (shown_function f) (shown_right r)) view
