-- The row of a named type is of its regions, its arguments and its fields.
use Rattle.std.proofs.Common.{◌≡◌, sym, ap, subst, ◌∙◌, List, [], Contains, map}
use Rattle.std.specs.List.{AllZip}
use Rattle.std.proofs.lemmas.List.Elements.{Contains-append_left, Contains-append_right}
use Rattle.tm_base.specs.declared.definition.DefId.{DefId}
use Rattle.tm_base.specs.declared.definition.RegionId.{RegionId}
use Rattle.tm_base.specs.declared.ground.Ground.{Ground}
use Rattle.tm_names.specs.declared.resolved.Life.{Life}
use Rattle.tm_names.specs.declared.resolved.Open.{Open, Named}
use Rattle.tm_names.specs.declared.resolved.Resolved.{Resolved}
use Rattle.tm_ground.specs.Closed.{Closed, named, as_elements, closed, listed, region_of}
use Rattle.tm_ground.specs.Closing.{AreFound}
use Rattle.tm_ground.specs.Found.{AreRowsOfAll}
use Rattle.tm_ground.specs.Numbered.{IsNumbered}
use Rattle.tm_ground.specs.Occurs.{field_types, fields_of, parts_of}
use Rattle.tm_base.specs.declared.world.World.{World}
use Rattle.tm_ground.specs.declared.rows.Rows.{Rows}
use Rattle.tm_ground.specs.Rows.{AreFields, AreRows, HasRows, IsAsk, IsNamedRow, IsRefRow, IsWorldOf}
use Rattle.tm_ground.specs.Sets.{closed_types}
use Rattle.tm_ground.proofs.forms.OpenLemmas.{listed-as_elements, put_in-Named}

module _ (resolved : Resolved) where
  module _ (def : DefId) (lives : List Life) (ts : List Open) where
    is_named : closed (Named def lives ts) ≡ named def (map (region_of []) lives) (as_elements (closed_types ts))
    is_named = put_in-Named [] [] def lives ts

    -- its arguments are parts of the type
    pub argument-part : (d : Closed) → Contains (closed_types ts) d → Contains (parts_of resolved (closed (Named def lives ts))) d
    argument-part d h =
        let inside = Contains-append_left (listed (as_elements (closed_types ts))) _ d (subst (λ cs. Contains cs d) (sym (listed-as_elements (closed_types ts))) h) in
        subst (λ c. Contains (parts_of resolved c) d) (sym is_named) inside

    -- and so are its fields' types
    pub field-part : (d : Closed) → Contains (fields_of resolved def (map (region_of []) lives) (closed_types ts)) d → Contains (parts_of resolved (closed (Named def lives ts))) d
    field-part d h =
        let inside = Contains-append_right (listed (as_elements (closed_types ts))) _ d (subst (λ given. Contains (fields_of resolved def (map (region_of []) lives) given) d) (sym (listed-as_elements (closed_types ts))) h) in
        subst (λ c. Contains (parts_of resolved c) d) (sym is_named) inside

    pub row-of : (rows refs : List Closed) (regions : List RegionId) (args : List Ground) (types : List (List Ground))
        → regions ≡ map (region_of []) lives → AllZip (IsNumbered rows refs) (closed_types ts) args → AreFields rows refs (field_types resolved def regions (closed_types ts)) types
        → IsNamedRow rows refs resolved (closed (Named def lives ts)) (record { def = def; regions = regions; args = args; types = types })
    row-of rows refs regions args types e given each = record {
      args = as_elements (closed_types ts);
      type = is_named ∙ ap (λ rs. named def rs (as_elements (closed_types ts))) (sym e);
      given = subst (λ cs. AllZip (IsNumbered rows refs) cs args) (sym (listed-as_elements (closed_types ts))) given;
      fields = subst (λ cs. AreFields rows refs (field_types resolved def regions cs) types) (sym (listed-as_elements (closed_types ts))) each;
    }

-- the rows of two lists of all types that occur are the rows of all
pub all-rows : {resolved : Resolved} {types refs : List Closed} {made : Rows} → AreFound resolved types refs → AreRows types refs resolved made → AreRowsOfAll resolved made
all-rows {resolved} {types} {refs} {made} whole rows = record { types = types; refs = refs; whole = whole; rows = rows }

-- a world with the rows of some types is of those types
pub world-of : (resolved : Resolved) (types refs : List Closed) (made : Rows) (world : World) → AreRows types refs resolved made → HasRows resolved made world → IsWorldOf resolved types refs world
world-of resolved types refs made world rows has = record {
  profile = has.profile;
  defs = has.defs;
  regions = has.regions;
  bounds = has.bounds;
  named = subst (AllZip (IsNamedRow types refs resolved) types) (sym has.named) rows.named;
  ref_rows = subst (AllZip (IsRefRow types refs) refs) (sym has.refs) rows.ref_rows;
  questions = subst (AllZip (IsAsk types refs) resolved.asks) (sym has.questions) rows.questions;
}
