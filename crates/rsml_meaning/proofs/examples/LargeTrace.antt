-- The trace of the large specification, byte for byte: macros, a function, an array, a bus and a send.
use Rattle.std.specs.Prelude.{refl, codes}
use Rattle.std.specs.Fmt.{digits}
use Rattle.std.specs.Str.{is_utf8, chars}
use Rattle.rsml_meaning.proofs.Computed.{HasTrace}
use Rattle.rsml_meaning.proofs.Exists.{traced}
use Rattle.rsml_meaning.proofs.values.Tcas.{tcas}

the_display_shows_the_worst_threat : HasTrace tcas (codes "Pilot Selector=Active Own_Alt=5000\nRadar[7] Tau=30\nRadar[7] Tau=20\n")
    (codes "event 1 Pilot\n  round 1 Own\n    take Tcas.Mode 1 move Off -> On\n  round 2 Show\n    send Display Advice=Clear Height=5000\nevent 2 Radar[7]\n  round 1 Scan[7]\n    take Tcas.Other[7] 2 move Far -> Near\n  round 2 Show\n    send Display Advice=Traffic Height=5000\nevent 3 Radar[7]\n  round 1 Scan[7]\n    take Tcas.Other[7] 1 move Near -> Threat\n  round 2 Show\n    send Display Advice=Resolution Height=5000\nend 3\n")
unfolding digits is_utf8 chars lib.Utf8.encode
the_display_shows_the_worst_threat = traced _ _ _ refl refl
