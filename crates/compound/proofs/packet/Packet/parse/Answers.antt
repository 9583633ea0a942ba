use Rattle.rfc3550.specs.Answer.{map_ok}
use Rattle.utils.specs.Error.{parsed_of}
use Rattle.compound.specs.Packet.{sr_packet, rr_packet, sdes_packet, bye_packet, app_packet, unknown_packet}
use Rattle.compound.proofs.Packets.{packets, shown}
use Rattle.compound.proofs.packet.Packet.parse.Goals as goal

pub returns-in_err-parse-in-Sr : goal.returns-in_err-parse-in-Sr
unfolding map_ok
returns-in_err-parse-in-Sr c = search (packets, shown parsed_of sr_packet)

pub returns-in_ok-parse-in-Sr : goal.returns-in_ok-parse-in-Sr
unfolding map_ok
returns-in_ok-parse-in-Sr c = search (packets, shown parsed_of sr_packet)

pub returns-in_err-parse-in-Rr : goal.returns-in_err-parse-in-Rr
unfolding map_ok
returns-in_err-parse-in-Rr c = search (packets, shown parsed_of rr_packet)

pub returns-in_ok-parse-in-Rr : goal.returns-in_ok-parse-in-Rr
unfolding map_ok
returns-in_ok-parse-in-Rr c = search (packets, shown parsed_of rr_packet)

pub returns-in_err-parse-in-Sdes : goal.returns-in_err-parse-in-Sdes
unfolding map_ok
returns-in_err-parse-in-Sdes c = search (packets, shown parsed_of sdes_packet)

pub returns-in_ok-parse-in-Sdes : goal.returns-in_ok-parse-in-Sdes
unfolding map_ok
returns-in_ok-parse-in-Sdes c = search (packets, shown parsed_of sdes_packet)

pub returns-in_err-parse-in-Bye : goal.returns-in_err-parse-in-Bye
unfolding map_ok
returns-in_err-parse-in-Bye c = search (packets, shown parsed_of bye_packet)

pub returns-in_ok-parse-in-Bye : goal.returns-in_ok-parse-in-Bye
unfolding map_ok
returns-in_ok-parse-in-Bye c = search (packets, shown parsed_of bye_packet)

pub returns-in_err-parse-in-App : goal.returns-in_err-parse-in-App
unfolding map_ok
returns-in_err-parse-in-App c = search (packets, shown parsed_of app_packet)

pub returns-in_ok-parse-in-App : goal.returns-in_ok-parse-in-App
unfolding map_ok
returns-in_ok-parse-in-App c = search (packets, shown parsed_of app_packet)

pub returns-in_err-parse-in-Unknown : goal.returns-in_err-parse-in-Unknown
unfolding map_ok
returns-in_err-parse-in-Unknown c = search (packets, shown parsed_of unknown_packet)

pub returns-in_ok-parse-in-Unknown : goal.returns-in_ok-parse-in-Unknown
unfolding map_ok
returns-in_ok-parse-in-Unknown c = search (packets, shown parsed_of unknown_packet)
