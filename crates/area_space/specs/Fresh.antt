-- A table without a region in use.
use Rattle.std.specs.Prelude.{ℕ, ◌+◌, ◌*◌, ◌/◌, ◌≤◌, None, List, [], length, map, replicate}
use Rattle.std.specs.List.{sum_by}
use Rattle.lisp_graph.specs.declared.world.AreaKind.{AreaKind}
use Rattle.lisp_graph.specs.declared.world.AreaRule.{AreaRule}
use Rattle.area_space.specs.Table.{Table}

-- the quota of each area, in words
abbrev pub quotas_in : List AreaRule → List ℕ
quotas_in rules = map (λ (rule : AreaRule). rule.quota) rules

-- the kind of each area
abbrev pub kinds_in : List AreaRule → List AreaKind
kinds_in rules = map (λ (rule : AreaRule). rule.kind) rules

-- how many regions an area with this quota may have
abbrev pub share_of : ℕ → ℕ → ℕ
share_of top quota = (quota + 1023) / 1024 + 2 * (top + 1)

-- the regions suffice for all areas of a world
abbrev pub RoomRuleFor : ℕ → ℕ → List AreaRule → Type 0
RoomRuleFor regions top rules = sum_by (λ (rule : AreaRule). share_of top rule.quota) rules ≤ regions

-- every region is free, and no class is charged
abbrev pub fresh : ℕ → ℕ → List AreaRule → Table
fresh regions top rules = record {
  regions = regions;
  top = top;
  quotas = quotas_in rules;
  kinds = kinds_in rules;
  chains = replicate (2 * (length (quotas_in rules) * (top + 1))) [];
  charges = replicate (2 * (length (quotas_in rules) * (top + 1))) 0;
  husks = replicate (2 * (length (quotas_in rules) * (top + 1))) 0;
  used = replicate regions 0;
  marks = replicate regions 0;
  aim = None;
  last = None;
  pages = [];
  placed = 0;
}
