-- One socket, by its rules, alongside a conforming peer.
pub mod Pinned
pub mod Ends
pub mod Steps
pub mod Runs
pub mod Untaken
pub mod TakenRuns
pub mod WhatIsTaken
