-- Outlines. First the definitions, each with facts computed for small images: the map, the rule of steps, cycles, their listing.
pub mod Figures
pub mod Map
pub mod Steps
pub mod Cycles
pub mod Listing
-- The rule of steps: sides of pixels, a bijection on the edges of a region, where an outline meets itself.
pub mod Margins
pub mod Undoing
pub mod Sides
pub mod East
pub mod Returning
pub mod Pinches
-- Starts and corners.
pub mod North
pub mod Starting
pub mod Closing
-- What is listed: every side once, all outlines, the stretch of each, how many, cycle forms, the outer ones.
pub mod Keeping
pub mod Listed
pub mod Stretches
pub mod Bounds
pub mod Forms
pub mod Outer
-- For the loops that list: where the cycle through a north side starts.
pub mod Unseen
