-- How a set of assumptions is written.
use Rattle.std.proofs.Common.{◌≡◌, refl, Bool, true, false, [], codes}
use Rattle.tm_run.specs.Needs.{set_text}
use Rattle.tm_run.specs.NeedTexts.{or_nothing, with_flag}

pub flags-told : (alignment lifetimes safety validity : Bool)
    → or_nothing (with_flag (with_flag (with_flag (with_flag [] alignment (codes "alignment")) lifetimes (codes "lifetimes")) safety (codes "safety")) validity (codes "validity"))
    ≡ set_text (record { alignment = alignment; lifetimes = lifetimes; safety = safety; validity = validity })
flags-told true true true true = refl
flags-told true true true false = refl
flags-told true true false true = refl
flags-told true true false false = refl
flags-told true false true true = refl
flags-told true false true false = refl
flags-told true false false true = refl
flags-told true false false false = refl
flags-told false true true true = refl
flags-told false true true false = refl
flags-told false true false true = refl
flags-told false true false false = refl
flags-told false false true true = refl
flags-told false false true false = refl
flags-told false false false true = refl
flags-told false false false false = refl
