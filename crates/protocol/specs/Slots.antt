-- One cell for each sender, receiver and kind (02, job 4: "A fresh message overwrites the older one in its cell"). The machine's pool is a list still; a
-- relation, `Overwrites`, says what such cells do to it. proofs/Slots/Run.antt proves, with `KeptSlots` for all that a run keeps:
--
--     make-slots             making leaves a network that is KeptSlots
--     accept_slots           a message that is accepted keeps it so, where what its receiver sends overwrites
--     relisted               and so does another order of the same messages
--     overwritten_not_newer  what is overwritten is never newer, by stamp, or by bound for solutions
--     emptied_stays          the slot of the message that was taken stays empty
--
-- Read first: Slot (the slot of a message, those that the rules allow, what is not newer) and the statements of Run. The rest is proof, in proofs/Slots:
-- Sends      what a step sends has its unit as sender, goes to others, and no two of it share a slot
-- Order      a unit's threshold is not below what it has sent, and was not above what it sends
-- Cases      a delivery on 01's table T, computed
pub mod Slot
pub mod Sends
pub mod Order
pub mod Run
