-- `builder::list_goal` meets its contract: what is not lent of the second masks stays as it is, and is not counted.
use Rattle.std.proofs.Common.{◌≡◌, ◌≤◌, Bool, length, sym, ap, ◌∙◌, arith}
use Rattle.std.proofs.Math.Path.{refl}
use Rattle.std.proofs.Math.Seq.{length-take-le}
use Rattle.expander.specs.Expands.{if_paired}
use Rattle.expander.specs.ExpandsLaws.{if_most}
use Rattle.builder.specs.RowLaws.{header_paired}
use Rattle.builder.specs.PlanLaws.{cut_unlent, writes_lent}
use Rattle.builder.proofs.list_goal.Goals as goal

pub slice_bounds-expand_goal-end : goal.slice_bounds-expand_goal-end
slice_bounds-expand_goal-end c = omega (arith, c.if_paired-used.ensures, if_most c.args.header.paired (length c.args.absences.now))

pub slice_bounds-expand_goal-end-2 : goal.slice_bounds-expand_goal-end-2
slice_bounds-expand_goal-end-2 c =
    sym (length-take-le _ _ (omega (arith, c.if_paired-used.ensures, if_most c.args.header.paired (length c.args.absences.now))))

pub expand_goal-expanded-requires : goal.expand_goal-expanded-requires
expand_goal-expanded-requires c = (c.requires, cut_unlent c.args.header.paired _ c.args.absences.now c.if_paired-used.ensures)

pub returns : goal.returns
returns c =
    λ t e.
    let a = c.args in
    let paired = header_paired a.table.now (λ i. (c.type_inv.table i).fits) a.header c.requires t e in
    let used = c.if_paired-used.ensures ∙ ap (λ (p : Bool). if_paired p (length a.absences.now)) paired in
    writes_lent _ _ _ _ _ _ _ t a.until _ _ _ used (c.expand_goal-expanded.ensures t e) c.as_listed.ensures refl
