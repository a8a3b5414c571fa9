use Rattle.hls_master.proofs.variant.variant_of.Goals as goal
use Rattle.std.proofs.{Common.{◌≡◌, Err}, lemmas.Result.err_from_is_err_and}
use Rattle.bridge_io.specs.Firsts.{first_some}
use Rattle.hls_master.specs.{Addresses.{address_fault, address_value}, Faults.{answer, refusal}, SeenTags.{shown_seen, variant_seen}}
use Rattle.hls_master.specs.Variants.{variant_faults, variant_with}
use Rattle.hls_master.proofs.{Answers.{told, passed_on}, Variants.{shown_stops, address_stops, is_read}}

pub returns-in_err-shown : goal.returns-in_err-shown
returns-in_err-shown c =
    let fault = err_from_is_err_and c.from_residual-in_err-shown.result c.from_residual-in_err-shown.ensures.1 in
    let a = c.args in
    let stops = shown_stops a.base.now a.uri.now a.place a.uri_place a.attributes.now c.in_ok-text.text.now c.in_ok-bandwidth.bandwidth
    c.in_ok-text.ensures c.in_ok-bandwidth.ensures _ c.in_err-shown.ensures in
    rw (fault.1, fault.2) (told variant_seen _
    (answer (first_some (variant_faults a.base.now a.place a.uri.now a.uri_place a.attributes.now))
    (variant_with a.base.now a.place a.uri.now a.attributes.now)) stops)

pub returns-in_err-address : goal.returns-in_err-address
returns-in_err-address c =
    let fault = err_from_is_err_and c.from_residual-in_err-address.result c.from_residual-in_err-address.ensures.1 in
    let a = c.args in
    let stops = address_stops a.base.now a.uri.now a.place a.uri_place a.attributes.now c.in_ok-text.text.now c.in_ok-bandwidth.bandwidth
    c.in_ok-text.ensures c.in_ok-bandwidth.ensures (shown_seen c.in_ok-shown.shown) c.in_ok-shown.ensures in
    rw (fault.1, fault.2)
    (passed_on (refusal c.in_err-address.field-0.0) (λ f. answer (address_fault a.base.now a.uri_place a.uri.now)
    (address_value a.base.now a.uri.now) ≡ Err f)
    (λ f. answer (first_some (variant_faults a.base.now a.place a.uri.now a.uri_place a.attributes.now))
    (variant_with a.base.now a.place a.uri.now a.attributes.now) ≡ Err f)
    stops c.in_err-address.ensures)

pub returns : goal.returns
returns c =
    let a = c.args in
    rw (c.get-audio.ensures, c.get-subtitles.ensures)
    (is_read a.base.now a.uri.now a.place a.uri_place a.attributes.now c.in_ok-text.text.now c.in_ok-bandwidth.bandwidth
    c.in_ok-text.ensures c.in_ok-bandwidth.ensures (shown_seen c.in_ok-shown.shown) c.in_ok-shown.ensures
    c.in_ok-address.address c.in_ok-address.ensures)
