use Rattle.std.proofs.Common.{◌≡◌, ◌++◌, drop, map}
use Rattle.tm_base.specs.Texts.{behind_commas, region_text}
use Rattle.tm_base.specs.Worlds.{tables_of}
use Rattle.tm_base.proofs.spelling.write_other_regions.Given as goal

-- what is written and what the other regions give is the whole
abbrev pub invariant-loop-region : goal.invariant-loop-region
invariant-loop-region l =
    l.text ++ behind_commas (map (region_text (tables_of l.world)) (drop l.region-index l.regions))
    ≡ l.initial.text ++ behind_commas (map (region_text (tables_of l.world)) l.regions)
