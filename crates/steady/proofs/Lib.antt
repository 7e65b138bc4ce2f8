-- What the functions of the steady profile need: the first offender among the nodes of a tree (Scans).
pub mod Scans
pub mod Faults
pub mod Judges
