-- Laws of a unit, over the definitions alone. 01's promises that every run rests on:
--     Views, Filled, Stamps     a view in range; places filled; the order of stamps
--     Range                     a state in range, as facts
--     Forbidden                 what is forbidden is passed over, or out of range; an estimate of NONE makes a unit assign
--     Packets                   what each plan sends can be written (`Sendable`), at most 16 packets
--     Assign, Steps             a unit in range takes any message that reads well, stays in range, and sends what can be written; so does making
--     Bounds                    a stale message changes nothing; the bound never rises; unit n keeps no CPA
--     Calls                     the same of making and a step as called
--     Walk                      one walk through what a unit decides
--     Refusals                  a refusal has a number; assigning refuses nothing
--     Units                     many units in range: a step of one leaves all in range, and sends what can be written
--     Readiness                 what a step has checked is what the deciding functions ask
--     Trusted                   the step on what is known to be good is the step on what a step accepts
--     Ways                      a unit decides what the way of a message says
pub mod Views
pub mod Stamps
pub mod Filled
pub mod Range
pub mod Forbidden
pub mod Packets
pub mod Assign
pub mod Steps
pub mod Bounds
pub mod Calls
pub mod Walk
pub mod Refusals
pub mod Units
pub mod Readiness
pub mod Trusted
pub mod Ways
