use Rattle.std.proofs.Common.{◌≡◌, ℕ, ◌+◌, List, Vec, [], ◌∷◌, ◌++◌, ◌∙◌, map, ap, ap₂, sym, arith, rules}
use Rattle.std.specs.Global.{Global}
use Rattle.std.proofs.lemmas.Grind.{common_steps}
use Rattle.std.proofs.lemmas.List.{map-append}
use Rattle.std.proofs.lemmas.List.FromFn.{map-range_with_len_more}
use Rattle.pim_base.specs.Lists.{numbers}
use Rattle.pim_base.specs.Scripts.{script_of}
use Rattle.pim_base.specs.declared.lines.StepLine.{StepLine}
use Rattle.pim_base.specs.declared.steps.Op.{Op}
use Rattle.pim_shared.specs.Gathered.{lines}
use Rattle.pim_tool.proofs.scripts.scripts_of.Goals as goal

-- one script more
lines_more :
    (ls : List StepLine) (i : ℕ) (xs ys : List (Vec Op Global)) (x : Vec Op Global)
    → ys ≡ xs ++ x ∷ []
    → lines xs ≡ map (script_of ls) (numbers i)
    → x.items ≡ script_of ls (i + 1)
    → lines ys ≡ map (script_of ls) (numbers (i + 1))
lines_more ls i xs ys x pushed before next =
    ap lines pushed
    ∙ map-append (λ (script : Vec Op Global). script.items) xs (x ∷ [])
    ∙ ap₂ (λ (ss : List (List Op)) s. ss ++ s ∷ []) before next
    ∙ sym (map-range_with_len_more (script_of ls) 1 i (i + 1) (omega arith))

pub loop-index-preserved : goal.loop-index-preserved
loop-index-preserved c = record {
  scripts =
      lines_more c.args.text.now.lines.items c.loop-index.index _ _ _ c.in_ok-push.ensures.items
      c.loop-index.invariant.scripts (search (rules, c.in_ok-script_of.ensures));
  count = grind (arith, common_steps);
}
