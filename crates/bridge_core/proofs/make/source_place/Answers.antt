use Rattle.std.proofs.Common.{◌≡◌, codes, Ok, subst}
use Rattle.bridge_playlists.specs.Places.{store_place_of}
use Rattle.bridge_steps.specs.Endings.{IsPlaced}
use Rattle.bridge_core.specs.Make.{source_name}
use Rattle.bridge_core.proofs.make.source_place.Goals as goal

pub returns-in-Ok-Ok : goal.returns-in-Ok-Ok
returns-in-Ok-Ok c =
    let name = c.in-Ok-Ok.name in
    let named : name ≡ source_name = (let read : Ok source_name ≡ Ok name = c.in-Ok-Ok.ensures' in cc) in
    subst (λ name. IsPlaced (store_place_of (codes "https://make.example/") name) c.place_in.result) named
    (subst (λ base. IsPlaced (store_place_of base name) c.place_in.result) c.in-Ok-Ok.ensures c.place_in.ensures)
