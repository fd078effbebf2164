-- The rules mux_combine and mux_combine0: they are sound, and match at an instance.
pub mod MuxNodes
pub mod MuxLists
pub mod MuxWires
pub mod MuxSound
pub mod MuxMade
